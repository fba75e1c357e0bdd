use Rattle.std.proofs.Common.{ℕ, ◌<◌}
use Rattle.qz_ring.specs.Counts.{CountsNothing}
use Rattle.qz_matrix.specs.Entries.{entry_at}
use Rattle.qz_equiv.proofs.zeros.lead_in_column.Given as goal

abbrev pub invariant-loop-i : goal.invariant-loop-i
invariant-loop-i l = (k : ℕ) → k < l.i → CountsNothing (entry_at l.x k l.j)
