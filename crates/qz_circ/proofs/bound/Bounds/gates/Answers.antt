use Rattle.qz_circ.proofs.BoundsLemmas.{in_range}
use Rattle.qz_circ.proofs.bound.Bounds.gates.Goals as goal

pub count_gates-requires-clause-qubits : goal.count_gates-requires-clause-qubits
count_gates-requires-clause-qubits c = (in_range _ c.self.invariant).qubits

pub count_gates-requires-clause-params : goal.count_gates-requires-clause-params
count_gates-requires-clause-params c = (in_range _ c.self.invariant).params

pub count_gates-requires-clause-grain : goal.count_gates-requires-clause-grain
count_gates-requires-clause-grain c = (in_range _ c.self.invariant).grain
