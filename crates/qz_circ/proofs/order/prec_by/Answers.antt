use Rattle.std.proofs.Common.{◌≡◌, ◌∙◌, sym}
use Rattle.std.specs.Ordering.{nat_cmp}
use Rattle.qz_circ.proofs.ProgramOrder.{dear_decides, as_dear, ones_decide}
use Rattle.qz_circ.proofs.order.prec_by.Goals as goal

pub returns-then-is_ne : goal.returns-then-is_ne
returns-then-is_ne c =
    dear_decides c.args.weights c.args.a.now c.args.c.now c.cmp-order.result (c.cmp-order.ensures ∙ (λ i. nat_cmp (c.price.ensures i) (c.price-2.ensures i))) (sym c.is_ne.ensures ∙ c.if-is_ne.true)

pub returns : goal.returns
returns c =
    c.prec_insts.ensures ∙ ones_decide c.args.weights c.args.a.now c.args.c.now (as_dear c.args.weights c.args.a.now c.args.c.now c.cmp-order.result (c.cmp-order.ensures ∙ (λ i. nat_cmp (c.price.ensures i) (c.price-2.ensures i))) (sym c.is_ne.ensures ∙ c.if-is_ne.false))
