use Rattle.std.proofs.Common.{◌≡◌, ◌+◌, ◌<◌, ◌≤◌, ◌++◌, length, reverse, vec_len, vec_capacity}
use Rattle.qz_circ.specs.Order.{all_circuits, circuit_at}
use Rattle.qz_circ.proofs.ranks.unrank.Given as goal

abbrev pub invariant-loop-rest : goal.invariant-loop-rest
invariant-loop-rest l = record {
  listed : l.rest < length (all_circuits l.fn.b);
  parts : circuit_at l.fn.b l.rest ++ reverse l.circuit.items ≡ circuit_at l.fn.b l.fn.r;
  room : vec_len l.circuit + length (circuit_at l.fn.b l.rest) ≤ vec_capacity l.circuit;
}

abbrev pub decreases-loop-rest : goal.decreases-loop-rest
decreases-loop-rest l = l.rest
