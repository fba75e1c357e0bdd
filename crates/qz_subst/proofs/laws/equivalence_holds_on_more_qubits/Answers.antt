use Rattle.qz_subst.proofs.EquivalentInstances.{on_more_qubits}
use Rattle.qz_subst.proofs.laws.equivalence_holds_on_more_qubits.Goals as goal

pub returns : goal.returns
returns _ = on_more_qubits
