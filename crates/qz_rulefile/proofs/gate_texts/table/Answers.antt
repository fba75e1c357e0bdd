use Rattle.qz_circ.specs.Circuit.{gates_of}
use Rattle.qz_circ.specs.Vectors.{lists_of}
use Rattle.qz_rulefile.proofs.GateTables.{one_text_more}
use Rattle.qz_rulefile.proofs.gate_texts.table.Goals as goal

pub loop-k-preserved : goal.loop-k-preserved
loop-k-preserved c =
    one_text_more c.args.b.grain c.args.letters.now c.in-Ok.text.items (gates_of c.args.b) c.loop-k.k c.gate.result (lists_of c.loop-k.texts.items) (lists_of c.push_text-in-loop-k.new.texts.items) c.args.text.now
    c.gate.ensures (rw c.grain.ensures.value at c.in-Ok.ensures) c.loop-k.invariant c.in_ok-push_text-2.ensures
