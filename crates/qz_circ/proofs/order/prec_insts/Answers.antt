use Rattle.std.proofs.Common.{◌∙◌, length, sym}
use Rattle.std.specs.Ordering.{nat_cmp, ordering_then}
use Rattle.std.specs.Cmp.Lexicographic.{slice_cmp}
use Rattle.qz_circ.proofs.DerivedOrders.{program_gates_by_key}
use Rattle.qz_circ.proofs.ProgramOrder.{by_ones}
use Rattle.qz_circ.proofs.order.prec_insts.Goals as goal

pub returns : goal.returns
returns c =
    let a = c.args.a.now in
    let d = c.args.c.now in
    c.by_length.ensures ∙ (λ i. ordering_then (nat_cmp (length a) (length d)) (slice_cmp (λ f g. program_gates_by_key f g i) a d)) ∙ sym (by_ones a d)
