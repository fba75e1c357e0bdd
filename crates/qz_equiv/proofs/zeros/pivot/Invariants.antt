use Rattle.std.proofs.Common.{ℕ, ◌<◌}
use Rattle.qz_equiv.specs.Phases.{IsZeroColumn}
use Rattle.qz_equiv.proofs.zeros.pivot.Given as goal

abbrev pub invariant-loop-j : goal.invariant-loop-j
invariant-loop-j l = (k : ℕ) → k < l.j → IsZeroColumn l.x k
