use Rattle.std.proofs.Common.{◌≡◌, ◌-◌, ◌%◌, ◌<◌, ◌≤◌, take, drop, map, ap, ◌∙◌, arith}
use Rattle.std.specs.List.{All}
use Rattle.qz_ring.specs.Exponent.{Exponent}
use Rattle.qz_ring.specs.Terms.{Terms, weight_of, largest_reach, reach_times}
use Rattle.qz_ring.specs.Shifting.{shifted_term}
use Rattle.qz_ring.proofs.Shifts.{weight_of-rotated, largest_reach-rotated, reach_times-rotated, is_shifted}
use Rattle.qz_ring.proofs.shift.shift_terms.Goals as goal

-- turning the list round keeps its weight
pub shift_each-requires-clause-weight : goal.shift_each-requires-clause-weight
shift_each-requires-clause-weight c =
    let same = ap weight_of c.rotate_left.ensures.after ∙ weight_of-rotated c.args.terms.now c.first_passing-passing.result in
    omega (arith, same, c.requires.weight)

-- and its powers
pub shift_each-requires-clause-reach : goal.shift_each-requires-clause-reach
shift_each-requires-clause-reach c =
    let same = ap largest_reach c.rotate_left.ensures.after ∙ largest_reach-rotated c.args.terms.now c.first_passing-passing.result in
    omega (arith, same, c.requires.reach)

-- and the powers of its products
pub shift_each-requires-clause-products : goal.shift_each-requires-clause-products
shift_each-requires-clause-products c =
    let same = ap (λ (ts : Terms). reach_times ts c.args.by) c.rotate_left.ensures.after ∙ reach_times-rotated c.args.by c.args.terms.now c.first_passing-passing.result in
    omega (arith, same, c.requires.products)

-- so the list is shifted as a whole
pub returns : goal.returns
returns c =
    let by = c.args.by in
    let old = c.args.terms.now in
    let k = c.first_passing-passing.result in
    let turn : c.by.inside.turn ≡ by.turn = ap (λ (e : Exponent). e.turn) c.by.view_is in
    let below : All (λ t. t.exponent.turn < 256 - by.turn % 256) (take k old) = rw (← turn) c.first_passing-passing.ensures.below in
    let passing : All (λ t. 256 - by.turn % 256 ≤ t.exponent.turn) (drop k old) = rw (← turn) c.first_passing-passing.ensures.passing in
    let made = c.shift_each.ensures ∙ ap (λ (ts : Terms). map (shifted_term by) ts) c.rotate_left.ensures.after in
    rw made (is_shifted by (omega (arith, turn, c.by.invariant.0)) old k c.requires.canonical below passing)
