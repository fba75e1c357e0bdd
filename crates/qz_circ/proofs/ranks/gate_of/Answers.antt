use Rattle.std.proofs.Common.{sym, arith}
use Rattle.qz_circ.proofs.GateNumbers.{h_at, x_at}
use Rattle.qz_circ.proofs.ranks.gate_of.Goals as goal

pub returns-then-number-q : goal.returns-then-number-q
returns-then-number-q c n = sym (h_at n c.args.q c.args.m c.args.grain c.requires.some_qubit c.requires.qubits c.requires.params c.requires.grain c.args.number (omega arith))

pub returns-then-number-q-2 : goal.returns-then-number-q-2
returns-then-number-q-2 c n = sym (x_at n c.args.q c.args.m c.args.grain c.requires.some_qubit c.requires.qubits c.requires.params c.requires.grain c.args.number (omega arith) (omega arith))
