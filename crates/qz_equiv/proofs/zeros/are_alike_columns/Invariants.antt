use Rattle.std.proofs.Common.{ℕ, ◌<◌}
use Rattle.qz_matrix.specs.Entries.{entry_at}
use Rattle.qz_equiv.specs.Phases.{AreAlike}
use Rattle.qz_equiv.proofs.zeros.are_alike_columns.Given as goal

abbrev pub invariant-loop-i : goal.invariant-loop-i
invariant-loop-i l = (k : ℕ) → k < l.i → AreAlike (entry_at l.x k l.j) (entry_at l.y k l.j)
