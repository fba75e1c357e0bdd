use Rattle.std.proofs.Common.{◌≡◌, ◌-◌, ◌%◌, ◌<◌, ◌≤◌, ◌++◌, take, drop, map, sym, ap, subst, ◌∙◌, arith}
use Rattle.std.specs.List.{All}
use Rattle.qz_ring.specs.Exponent.{Exponent}
use Rattle.qz_ring.specs.Terms.{Terms}
use Rattle.qz_ring.specs.Counts.{IsTimesMonomial}
use Rattle.qz_ring.specs.Shifting.{shifted_term, IsShifted}
use Rattle.qz_ring.proofs.Counts.{terms_from_counts}
use Rattle.qz_ring.proofs.Shifts.{is_shifted}
use Rattle.qz_ring.proofs.shift.is_times.Goals as goal

-- the turned list of products is the other list times the monomial, and has the one form, so that no other list in it has its counts
pub returns : goal.returns
returns c =
    let by = c.args.by in
    let other = c.args.other.now in
    let k = c.first_passing-passing.result in
    let turn : c.by.inside.turn ≡ by.turn = ap (λ (e : Exponent). e.turn) c.by.view_is in
    let below : All (λ t. t.exponent.turn < 256 - by.turn % 256) (take k other) = rw (← turn) c.first_passing-passing.ensures.below in
    let passing : All (λ t. 256 - by.turn % 256 ≤ t.exponent.turn) (drop k other) = rw (← turn) c.first_passing-passing.ensures.passing in
    let products = map (shifted_term by) (drop k other ++ take k other) in
    let shifted : IsShifted by other products = is_shifted by (omega (arith, turn, c.by.invariant.0)) other k c.requires.other_canonical below passing in (
      λ yes. subst (λ (ts : Terms). IsTimesMonomial by other ts) (sym (c.is_turned.ensures.0 yes)) shifted.counts,
      λ times. c.is_turned.ensures.1 (terms_from_counts c.args.terms.now products c.requires.canonical shifted.canonical (λ e in_circle. times e in_circle ∙ sym (shifted.counts e in_circle))),
    )
