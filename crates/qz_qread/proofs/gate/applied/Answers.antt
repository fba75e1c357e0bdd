use Rattle.qz_qread.proofs.Repetitions.{applied_more}
use Rattle.qz_qread.proofs.gate.applied.Goals as goal

pub loop-i-preserved : goal.loop-i-preserved
loop-i-preserved c =
    applied_more c.args.registers.now c.args.gate c.args.k c.args.args.now c.loop-i.i c.qubit_of-a.result c.qubit_of-b.result c.qubit_of-c.result c.loop-i.gates.items c.push_gates.new.gates.items
    c.loop-i.invariant c.qubit_of-a.ensures c.qubit_of-b.ensures c.qubit_of-c.ensures c.in_ok-push_gates.ensures
