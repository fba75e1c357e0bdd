use Rattle.qz_circ.proofs.GateNumbers.{gate_below, circuit_below}
use Rattle.qz_circ.proofs.laws.gates_are_below_limits.Goals as goal

pub returns-clause-qubits : goal.returns-clause-qubits
returns-clause-qubits _ b g h = (gate_below b g h).0

pub returns-clause-params : goal.returns-clause-params
returns-clause-params _ b g h = (gate_below b g h).1

pub returns-clause-circuits : goal.returns-clause-circuits
returns-clause-circuits _ b c w = circuit_below b c w.gates
