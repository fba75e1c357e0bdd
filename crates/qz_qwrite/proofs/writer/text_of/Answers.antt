use Rattle.qz_qwrite.proofs.ProgramTexts.{length-qubit_texts, parts_in_order}
use Rattle.qz_qwrite.proofs.writer.text_of.Goals as goal

pub push_gates-requires : goal.push_gates-requires
push_gates-requires c =
    rw (c.gates-2.ensures, c.in_ok-qubits.ensures, c.qregs.ensures, length-qubit_texts c.args.p.now.qregs) c.requires.gates.gates

pub push_tail-requires : goal.push_tail-requires
push_tail-requires c = rw (c.tail.ensures, c.qregs-3.ensures, c.cregs-2.ensures) c.requires.tail

pub returns : goal.returns
returns c =
    parts_in_order c.args.p.now c.extend_from_slice.new.self.items c.push_registers.new.out.items c.push_registers-2.new.out.items c.push_gates.new.out.items c.push_tail.new.out.items
    (rw c.in_ok-out.ensures.items at c.in_ok-extend_from_slice.ensures.items)
    (rw c.qregs-2.ensures at c.in_ok-push_registers.ensures)
    (rw c.cregs.ensures at c.in_ok-push_registers-2.ensures)
    (rw (c.in_ok-qubits.ensures, c.qregs.ensures, c.gates-2.ensures) at c.in_ok-push_gates.ensures)
    (rw (c.qregs-3.ensures, c.cregs-2.ensures, c.tail.ensures) at c.in_ok-push_tail.ensures)
