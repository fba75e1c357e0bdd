use Rattle.std.proofs.Common.{arith}
use Rattle.qz_equiv.proofs.DecisionLemmas.{decided, decided_swapped}
use Rattle.qz_equiv.proofs.same_in_order.Goals as goal

pub returns-then-halves : goal.returns-then-halves
returns-then-halves c = λ a d. decided_swapped c.args.x.now c.args.y.now a d c.in_ok-same.same c.requires.qubits (omega arith) c.in_ok-same.ensures

pub returns : goal.returns
returns c = λ a d. decided c.args.x.now c.args.y.now a d c.in_ok-same-2.same c.requires.qubits (omega arith) c.in_ok-same-2.ensures
