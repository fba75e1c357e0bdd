use Rattle.std.proofs.Common.{sym, ap, ◌∙◌, set, arith}
use Rattle.std.proofs.lemmas.List.Edits.{map_over_more}
use Rattle.qz_ring.specs.Terms.{Term}
use Rattle.qz_ring.specs.Shifting.{shifted_term}
use Rattle.qz_ring.proofs.Sums.{coefficient_within, reach_within, product_within}
use Rattle.qz_ring.proofs.Shifts.{unmapped}
use Rattle.qz_ring.proofs.shift.shift_each.Goals as goal

-- the term is one of the first list, whose coefficients and powers are bounded
pub shifted-requires-clause-weight : goal.shifted-requires-clause-weight
shifted-requires-clause-weight c =
    let t = c.term-item.result in
    let read = unmapped (shifted_term c.args.by) c.args.terms.now c.loop-term.terms c.loop-term.term-index t c.loop-term.invariant c.term-item.is in
    let within = coefficient_within c.args.terms.now c.loop-term.term-index t (omega arith) read in
    rw (← c.term-item.is) (omega (arith, within, c.requires.weight))

pub shifted-requires-clause-factor : goal.shifted-requires-clause-factor
shifted-requires-clause-factor c =
    let t = c.term-item.result in
    let read = unmapped (shifted_term c.args.by) c.args.terms.now c.loop-term.terms c.loop-term.term-index t c.loop-term.invariant c.term-item.is in
    let within = reach_within c.args.terms.now c.loop-term.term-index t (omega arith) read in
    rw (← c.term-item.is) (omega (arith, within, c.requires.reach))

pub shifted-requires-clause-product : goal.shifted-requires-clause-product
shifted-requires-clause-product c =
    let t = c.term-item.result in
    let read = unmapped (shifted_term c.args.by) c.args.terms.now c.loop-term.terms c.loop-term.term-index t c.loop-term.invariant c.term-item.is in
    let within = product_within c.args.terms.now c.args.by c.loop-term.term-index t (omega arith) read in
    rw (← c.term-item.is) (omega (arith, within, c.requires.products))

-- one more term is shifted
pub loop-term-preserved : goal.loop-term-preserved
loop-term-preserved c =
    let more = map_over_more (shifted_term c.args.by) c.args.terms.now c.loop-term.terms c.loop-term.term-index c.term-item.result (omega arith) c.loop-term.invariant c.term-item.is in
    let made = c.shifted.ensures ∙ ap (shifted_term c.args.by) (sym c.term-item.is) in
    ap (λ (t : Term). set c.loop-term.terms c.loop-term.term-index t) made ∙ more
