use Rattle.std.proofs.Common.{◌≡◌, ◌+◌, ◌<◌, take}
use Rattle.qz_circ.specs.Bounds.{gate_count}
use Rattle.qz_circ.specs.Order.{circuit_at}
use Rattle.qz_circ.proofs.CircuitLists.{shorter}
use Rattle.qz_circ.proofs.ranks.rank.Given as goal

abbrev pub invariant-loop-op : goal.invariant-loop-op
invariant-loop-op l = record {
  few : l.earlier < shorter (gate_count l.fn.b) (l.op-index + 1);
  here : circuit_at l.fn.b l.earlier ≡ take l.op-index l.c;
}
