use Rattle.std.proofs.Common.{◌≡◌, ℕ, ◌++◌, take, drop, length, refl, ap, subst, ◌∙◌, arith}
use Rattle.std.proofs.Math.Seq.{take-append_seam}
use Rattle.qz_ring.specs.Terms.{Terms, weight_of, reach_times}
use Rattle.qz_ring.specs.Shifting.{IsShifted}
use Rattle.qz_ring.proofs.elem.Elem.shift.Goals as goal

-- a list of this length, written over another from its start, is what is left
written_over : (new old : Terms) (n : ℕ) → n ≡ length new → take n (new ++ drop (length new) old) ≡ new
written_over new old n same = rw (same, take-append_seam) refl

-- the sum is the old one times the monomial
pub returns : goal.returns
returns c =
    let old = c.self.inside.terms.items in
    let new = c.shift_terms.new.terms in
    let from : c.as_mut_slice.result.now ≡ c.args.self.now = c.as_mut_slice.ensures.value ∙ c.self.view_is in
    let shifted : IsShifted c.args.by c.args.self.now new = subst (λ (ts : Terms). IsShifted c.args.by ts new) from c.shift_terms.ensures in
    rw (written_over new old (length old) (omega (arith, ap length c.as_mut_slice.ensures.value, c.shift_terms.ensures.length))) (record { counts = shifted.counts; weight = shifted.weight; length = shifted.length; reach = shifted.reach })

-- and stays in its one form and within its bounds
pub invariant_of-self : goal.invariant_of-self
invariant_of-self c =
    let shifted = c.shift_terms.ensures in
    let from : c.as_mut_slice.result.now ≡ c.args.self.now = c.as_mut_slice.ensures.value ∙ c.self.view_is in
    rw (written_over c.shift_terms.new.terms c.self.inside.terms.items (length c.self.inside.terms.items) (omega (arith, ap length c.as_mut_slice.ensures.value, shifted.length))) (shifted.canonical, omega (arith, shifted.weight, ap weight_of c.as_mut_slice.ensures.value, c.self.invariant.1), omega (arith, shifted.reach, ap (λ (ts : Terms). reach_times ts c.args.by) from, c.requires))
