use Rattle.std.proofs.Common.{◌≡◌}
use Rattle.std.specs.List.{flat_map}
use Rattle.qz_circ.specs.Circuit.{below}
use Rattle.qz_circ.specs.Grammar.{gates_at, qubits_at}
use Rattle.qz_qread.proofs.gate.applied.Given as goal

abbrev pub invariant-loop-i : goal.invariant-loop-i
invariant-loop-i l = l.gates.items ≡ flat_map (λ i. gates_at l.gate l.k (qubits_at l.registers l.args i)) (below l.i)
