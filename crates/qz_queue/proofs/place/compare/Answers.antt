use Rattle.std.proofs.Common.{◌∙◌, sym}
use Rattle.std.specs.Ordering.{nat_cmp}
use Rattle.qz_circ.proofs.ProgramOrder.{dear_decides, as_dear, ones_decide}
use Rattle.qz_queue.proofs.place.compare.Goals as goal

pub returns-then-is_ne-clause-order : goal.returns-then-is_ne-clause-order
returns-then-is_ne-clause-order c =
    dear_decides c.args.weights c.args.held.now.gates.items c.args.c.now c.cmp-order.result (c.cmp-order.ensures ∙ (λ i. nat_cmp (c.requires.held i) (c.requires.price i))) (sym c.is_ne.ensures ∙ c.if-is_ne.true)

pub returns-then-len-c-clause-order : goal.returns-then-len-c-clause-order
returns-then-len-c-clause-order c =
    let dear = as_dear c.args.weights c.args.held.now.gates.items c.args.c.now c.cmp-order.result (c.cmp-order.ensures ∙ (λ i. nat_cmp (c.requires.held i) (c.requires.price i))) (sym c.is_ne.ensures ∙ c.if-is_ne.false) in
    rw c.deref.ensures.value at c.prec_insts.ensures ∙ ones_decide c.args.weights c.args.held.now.gates.items c.args.c.now dear

pub compare_gates-requires-clause-dear : goal.compare_gates-requires-clause-dear
compare_gates-requires-clause-dear c =
    rw c.deref-2.ensures.value (as_dear c.args.weights c.args.held.now.gates.items c.args.c.now c.cmp-order.result (c.cmp-order.ensures ∙ (λ i. nat_cmp (c.requires.held i) (c.requires.price i))) (sym c.is_ne.ensures ∙ c.if-is_ne.false))
