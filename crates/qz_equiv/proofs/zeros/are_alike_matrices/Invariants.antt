use Rattle.std.proofs.Common.{ℕ, ◌<◌}
use Rattle.qz_equiv.specs.Phases.{AreAlikeColumns}
use Rattle.qz_equiv.proofs.zeros.are_alike_matrices.Given as goal

abbrev pub invariant-loop-j : goal.invariant-loop-j
invariant-loop-j l = (k : ℕ) → k < l.j → AreAlikeColumns l.x l.y k
