use Rattle.std.proofs.Common.{◌∙◌, refl, sym, ap}
use Rattle.qz_circ.specs.ProgramCircuits.{cost}
use Rattle.qz_search.proofs.Barred.{barred_lost}
use Rattle.qz_search.proofs.children.offer_at.Goals as goal

pub returns-then-is_barred-clause-offered : goal.returns-then-is_barred-clause-offered
returns-then-is_barred-clause-offered c =
    barred_lost c.args.queue.now c.args.test.now.seen c.args.test.now.most c.new_cost-n.result _ c.args.c.now.gates.now c.args.rule.now.right.now c.args.place.now c.args.bar.now c.requires.lawful c.requires.bar (c.is_barred.ensures c.if-is_barred.true) c.new_cost-n.ensures refl

pub offer_child-requires-clause-cost : goal.offer_child-requires-clause-cost
offer_child-requires-clause-cost c = c.new_cost-n.ensures ∙ ap (cost c.args.queue.now.weights) (sym c.in_ok-child.ensures.replaced)
