use Rattle.std.proofs.Common.{ℕ, ◌<◌}
use Rattle.qz_equiv.specs.Phases.{IsMultipleColumn}
use Rattle.qz_equiv.proofs.phase.same_matrix.Given as goal

abbrev pub invariant-loop-j : goal.invariant-loop-j
invariant-loop-j l = (k : ℕ) → k < l.j → IsMultipleColumn l.roots l.by l.x l.y k
