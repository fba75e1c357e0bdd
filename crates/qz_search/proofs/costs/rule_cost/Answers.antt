use Rattle.std.proofs.Common.{◌∙◌, arith}
use Rattle.qz_search.specs.Costs.{rule_cost}
use Rattle.qz_search.proofs.StepCosts.{rule_cost_more}
use Rattle.qz_search.proofs.costs.rule_cost.Goals as goal

pub loop-g-init : goal.loop-g-init
unfolding rule_cost
loop-g-init c = (omega arith, omega arith)

pub loop-g-preserved : goal.loop-g-preserved
loop-g-preserved c = (
  rule_cost_more c.args.weights c.args.left.now c.loop-g.g-index c.loop-g.n c.from-n.result _ c.loop-g-test.true c.loop-g.invariant.0 (c.from-n.ensures ∙ c.rule_weight.ensures),
  omega (arith, c.loop-g.invariant.1, c.from-n.ensures, c.rule_weight.type_inv),
)
