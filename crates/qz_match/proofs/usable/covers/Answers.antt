use Rattle.qz_match.proofs.UsableRules.{occur_in-yes, occur_in-no}
use Rattle.qz_match.proofs.usable.covers.Goals as goal

pub returns-then-covers_qubits : goal.returns-then-covers_qubits
returns-then-covers_qubits c = occur_in-yes c.args.left.now c.args.right.now c.covers_params.result c.if-covers_qubits.ensures c.covers_params.ensures

pub returns-else-covers_qubits : goal.returns-else-covers_qubits
returns-else-covers_qubits c = occur_in-no c.args.left.now c.args.right.now c.covers_qubits.result c.if-covers_qubits.false c.if-covers_qubits.ensures
