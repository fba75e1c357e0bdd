use Rattle.std.proofs.Common.{refl}
use Rattle.qz_circ.specs.Circuit.{gates_of, angles}
use Rattle.qz_circ.specs.Order.{gate_cmp, circuit_cmp, circuits_of, all_circuits, rank, circuit_at}
use Rattle.qz_circ.proofs.worked_values.ranks_of_two_gates.Goals as goal

pub returns-clause-circuits : goal.returns-clause-circuits
unfolding all_circuits circuits_of gates_of angles
returns-clause-circuits _ = refl

pub returns-clause-at_21 : goal.returns-clause-at_21
unfolding rank all_circuits circuits_of gates_of angles circuit_cmp gate_cmp
returns-clause-at_21 _ = refl

pub returns-clause-last : goal.returns-clause-last
unfolding circuit_at all_circuits circuits_of gates_of angles
returns-clause-last _ = refl
