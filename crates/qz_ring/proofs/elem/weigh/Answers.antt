use Rattle.std.proofs.Common.{◌+◌, ap, arith}
use Rattle.qz_ring.proofs.Sums.{coefficient_within, weight_of_more, weight_of-take}
use Rattle.qz_ring.proofs.Numbers.{unsigned_abs-read}
use Rattle.qz_ring.specs.Terms.{Term}
use Rattle.qz_ring.proofs.elem.weigh.Goals as goal

-- the sum so far is the weight of a front, which is at most the whole weight
pub overflow_add-weight : goal.overflow_add-weight
overflow_add-weight c =
    let more = weight_of_more c.args.terms.now c.loop-term.term-index c.term-item.result (omega arith) c.term-item.is in
    let within = weight_of-take c.args.terms.now (c.loop-term.term-index + 1) in
    omega (arith, more, within, c.loop-term.invariant)

-- one more term adds its absolute coefficient
pub loop-term-preserved : goal.loop-term-preserved
loop-term-preserved c =
    let t = c.term-item.result in
    let more = weight_of_more c.args.terms.now c.loop-term.term-index t (omega arith) c.term-item.is in
    let small = coefficient_within c.args.terms.now c.loop-term.term-index t (omega arith) c.term-item.is in
    let read = unsigned_abs-read c.term.inside.coefficient t.coefficient (ap (λ (u : Term). u.coefficient) c.term.view_is) (omega (arith, small, c.requires)) in
    omega (arith, more, read, c.loop-term.invariant)
