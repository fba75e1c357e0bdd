use Rattle.std.proofs.Common.{◌≡◌, ◌∙◌, sym, arith}
use Rattle.qz_circ.specs.ProgramCircuits.{cost}
use Rattle.qz_circ.proofs.ProgramOrder.{cost_ones, cost_more}
use Rattle.qz_circ.proofs.costs.price.Goals as goal

pub returns-then-are_ones : goal.returns-then-are_ones
returns-then-are_ones c =
    sym ((λ i. cost (c.are_ones.ensures c.if-are_ones.true i) c.args.c.now) ∙ cost_ones c.args.c.now)

pub loop-k-init : goal.loop-k-init
unfolding cost
loop-k-init c = (omega arith, omega arith)

pub loop-k-preserved : goal.loop-k-preserved
loop-k-preserved c =
    let more = cost_more c.args.weights c.args.c.now c.loop-k.k c.weight.result _ c.weight.ensures c.loop-k-test.true in
    (omega (arith, c.loop-k.invariant.0, more), omega (arith, c.loop-k.invariant.1, c.weight.type_inv))
