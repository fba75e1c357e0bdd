use Rattle.std.proofs.Common.{refl}
use Rattle.qz_circ.specs.Circuit.{gates_of, angles}
use Rattle.qz_circ.specs.Order.{circuits_of, all_circuits}
use Rattle.qz_circ.proofs.worked_values.angles_come_in_order.Goals as goal

pub returns-clause-circuits : goal.returns-clause-circuits
unfolding all_circuits circuits_of gates_of angles
returns-clause-circuits _ = refl

pub returns-clause-angles : goal.returns-clause-angles
unfolding angles
returns-clause-angles _ = refl

pub returns-clause-at_14 : goal.returns-clause-at_14
unfolding angles
returns-clause-at_14 _ = refl
