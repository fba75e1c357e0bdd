use Rattle.std.proofs.Common.{◌+◌, ◌-◌, ◌%◌, ◌≤◌, ap, subst, sym}
use Rattle.qz_ring.specs.Exponent.{Exponent, minus, reach_of}
use Rattle.qz_ring.proofs.Order.{same_from_parts}
use Rattle.qz_equiv.proofs.PhaseLemmas.{difference_fits, power_difference, powers_within, reach_of-minus}
use Rattle.qz_equiv.proofs.phase.quotient_of.Goals as goal

-- the powers of both are small, so their differences fit
pub overflow_sub-result-2 : goal.overflow_sub-result-2
overflow_sub-result-2 c = difference_fits _ _ c.args.a.x0 c.args.b.x0 (ap (λ (e : Exponent). e.x0) c.a.view_is) (ap (λ (e : Exponent). e.x0) c.b.view_is) (powers_within c.args.a 100 c.requires.first).0 (powers_within c.args.b 100 c.requires.second).0

pub overflow_sub-result-3 : goal.overflow_sub-result-3
overflow_sub-result-3 c = difference_fits _ _ c.args.a.x1 c.args.b.x1 (ap (λ (e : Exponent). e.x1) c.a.view_is) (ap (λ (e : Exponent). e.x1) c.b.view_is) (powers_within c.args.a 100 c.requires.first).1 (powers_within c.args.b 100 c.requires.second).1

pub overflow_sub-result-4 : goal.overflow_sub-result-4
overflow_sub-result-4 c = difference_fits _ _ c.args.a.x2 c.args.b.x2 (ap (λ (e : Exponent). e.x2) c.a.view_is) (ap (λ (e : Exponent). e.x2) c.b.view_is) (powers_within c.args.a 100 c.requires.first).2 (powers_within c.args.b 100 c.requires.second).2

-- each part is the difference of the parts
pub returns-clause-value : goal.returns-clause-value
returns-clause-value c =
    let a = powers_within c.args.a 100 c.requires.first in
    let b = powers_within c.args.b 100 c.requires.second in
    same_from_parts _ (minus c.args.a c.args.b) (λ i. ((c.a.view_is i).turn + (512 - (c.b.view_is i).turn)) % 512)
    (power_difference _ _ c.args.a.x0 c.args.b.x0 (ap (λ (e : Exponent). e.x0) c.a.view_is) (ap (λ (e : Exponent). e.x0) c.b.view_is) a.0 b.0)
    (power_difference _ _ c.args.a.x1 c.args.b.x1 (ap (λ (e : Exponent). e.x1) c.a.view_is) (ap (λ (e : Exponent). e.x1) c.b.view_is) a.1 b.1)
    (power_difference _ _ c.args.a.x2 c.args.b.x2 (ap (λ (e : Exponent). e.x2) c.a.view_is) (ap (λ (e : Exponent). e.x2) c.b.view_is) a.2 b.2)

pub returns-clause-reach : goal.returns-clause-reach
returns-clause-reach c = subst (λ (e : Exponent). reach_of e ≤ 200) (sym (returns-clause-value c)) (reach_of-minus c.args.a c.args.b c.requires.first c.requires.second)
