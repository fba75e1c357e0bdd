use Rattle.std.proofs.Common.{◌∙◌, length}
use Rattle.std.specs.Ordering.{nat_cmp, ordering_then}
use Rattle.std.specs.Cmp.Lexicographic.{slice_cmp}
use Rattle.qz_circ.specs.Order.{circuit_cmp}
use Rattle.qz_circ.proofs.DerivedOrders.{gates_by_key}
use Rattle.qz_circ.proofs.order.prec.Goals as goal

pub returns : goal.returns
unfolding circuit_cmp
returns c =
    let a = c.args.a.now in
    let d = c.args.c.now in
    c.by_length.ensures ∙ (λ i. ordering_then (nat_cmp (length a) (length d)) (slice_cmp (λ f g. gates_by_key f g i) a d))
