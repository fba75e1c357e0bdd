use Rattle.std.proofs.Common.{◌≡◌, length, vec_capacity}
use Rattle.qz_check.proofs.ColumnLemmas.{IsStartBelow}
use Rattle.qz_check.proofs.column.start.Given as goal

abbrev pub invariant-loop-i : goal.invariant-loop-i
invariant-loop-i l = record {
  filled : length l.entries.items ≡ l.i;
  room : vec_capacity l.entries ≡ l.rows;
  each : IsStartBelow l.roots l.j l.i l.entries.items;
}
