use Rattle.std.proofs.Common.{◌≡◌, ◌+◌, ◌^◌}
use Rattle.qz_circ.proofs.CircuitLists.{shorter}
use Rattle.qz_circ.proofs.bound.Bounds.circuits.Given as goal

abbrev pub invariant-loop : goal.invariant-loop
invariant-loop l = record {
  longest : l.longest ≡ l.gates ^ l.counter;
  all : l.all ≡ shorter l.gates (l.counter + 1);
}
