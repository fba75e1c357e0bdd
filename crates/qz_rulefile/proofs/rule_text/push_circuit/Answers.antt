use Rattle.qz_circ.specs.declared.circuit.Op.TheVariants.{H}
use Rattle.qz_circ.proofs.JoinedTexts.{joined_behind}
use Rattle.qz_circ.specs.RuleText.{gate_text}
use Rattle.qz_rulefile.proofs.TextLemmas.{gates_joined}
use Rattle.qz_rulefile.proofs.rule_text.push_circuit.Goals as goal

pub returns : goal.returns
returns c =
    rw (gates_joined c.args.grain c.args.c.now c.in-len1-up.len_at_least)
    (joined_behind 59 (gate_text c.args.grain) c.args.out.now.items c.push_gate.new.out.items c.loop-g.out.items c.args.c.now (H 0) c.loop-g.g-index
    c.in_ok-push_gate.ensures c.loop-g.invariant c.in-len1-up.len_at_least c.loop-g-test.false)
