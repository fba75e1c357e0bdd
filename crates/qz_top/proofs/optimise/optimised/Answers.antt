use Rattle.qz_top.specs.Optimised.{IsFound}
use Rattle.qz_top.proofs.OptimisedLemmas.{text_made}
use Rattle.qz_top.proofs.optimise.optimised.Goals as goal

pub returns : goal.returns
returns g c =
    let found : IsFound c.args.rules.now c.args.plan c.args.program c.in-Ok.circuit.items = c.requires.finds _ _ _ c.in-Ok.ensures in
    text_made (λ text. text.items) c.args.rules.now c.args.plan c.args.program c.in-Ok.circuit.items _ c.text_of.result found c.with_gates-changed.ensures c.text_of.ensures
