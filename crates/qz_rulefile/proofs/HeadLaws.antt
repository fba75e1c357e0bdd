-- Limits and what the first two lines tell of them.
use Rattle.std.proofs.Common.{◌≡◌, ℕ, Bool, true, false, true≢false, ◌≢◌, IfOk, IsOk, Result, Ok, Err, Option, Some, None, unwrap_or, refl, sym, ap, subst, ◌∙◌, ◌⊎◌, inl, inr, arith}
use Rattle.std.proofs.lemmas.Bool.{ne_eqb}
use Rattle.std.proofs.lemmas.Bool.Decides.{nat_tests}
use Rattle.qz_circ.specs.declared.fault.LimitFault.{LimitFault}
use Rattle.qz_circ.specs.Circuit.{Limits}
use Rattle.qz_circ.specs.Bounds.{is_grain, refusal, refusal_where, IsLawful}
use Rattle.qz_circ.specs.RuleText.{Head, head_of, told_grain}
use Rattle.qz_circ.specs.RuleFiles.{HasFewDigits, limits_of, is_told_grain, head_refusal}
use Rattle.qz_rulefile.specs.Forms.{StandsForTold}
use Rattle.qz_circ.proofs.BoundsLemmas.{in_range, for_grains}

-- what a lawful grain tells: that it has few digits, may be told so, and is told back
pub record Tells (grain : ℕ) : Type 0 where
  pub few : HasFewDigits (told_grain grain)
  pub allowed : is_told_grain (told_grain grain) ≡ true
  pub back : unwrap_or (told_grain grain) 4 ≡ grain

pub tells : (grain : ℕ) → is_grain grain ≡ true → Tells grain
tells grain h =
    for_grains Tells grain h
    (record { few = tt; allowed = refl; back = refl })
    (record { few = omega arith; allowed = refl; back = refl })
    (record { few = omega arith; allowed = refl; back = refl })

-- the limits that are told are those of the text
pub limits_back : (b : Limits) → IsLawful b → limits_of (head_of b) ≡ b
limits_back b h = ap (λ g. record { n = b.n; q = b.q; m = b.m; grain = g }) (tells b.grain (in_range b h).grain).back

-- lawful limits aren't refused where they are told
pub head_lawful : (b : Limits) → IsLawful b → head_refusal (head_of b) ≡ None
unfolding refusal
head_lawful b h =
    let range = in_range b h in
    let t = tells b.grain range.grain in
    ap (λ allowed. refusal_where allowed (limits_of (head_of b))) (t.allowed ∙ sym range.grain) ∙ ap (refusal_where (is_grain b.grain)) (limits_back b h) ∙ h

-- a grain that is told and allowed is 8 or 16
told_cases : (grain : ℕ) → is_told_grain (Some grain) ≡ true → (grain ≡ 8) ⊎ (grain ≡ 16)
told_cases grain h = grind (arith, nat_tests)

-- a grain that isn't allowed is refused
never_lawful : (b : Limits) → refusal_where false b ≡ None → ⊥
unfolding refusal_where
never_lawful b h = grind (arith, nat_tests)

pub told_allowed : (h : Head) → head_refusal h ≡ None → is_told_grain h.grain ≡ true
told_allowed h r = by_test (is_told_grain h.grain) r
  where
    by_test : (allowed : Bool) → refusal_where allowed (limits_of h) ≡ None → allowed ≡ true
    by_test true r = refl
    by_test false r = absurd (never_lawful (limits_of h) r)

back_by : (grain : Option ℕ) → is_told_grain grain ≡ true → told_grain (unwrap_or grain 4) ≡ grain
back_by None t = refl
back_by (Some grain) t = elim (told_cases grain t) [ inl e ↦ subst (λ g. told_grain g ≡ Some g) (sym e) refl | inr e ↦ subst (λ g. told_grain g ≡ Some g) (sym e) refl ]

-- what was told is told of the limits
pub head_back : (h : Head) → head_refusal h ≡ None → head_of (limits_of h) ≡ h
head_back h r = ap (λ (g : Option ℕ). record { n = h.n; q = h.q; m = h.m; grain = g }) (back_by h.grain (told_allowed h r))

-- ---- the grain with which the limits are made

pub none_told : StandsForTold None 4
unfolding refusal
none_told = record { refused = λ n q m. refl; same = λ _. refl }

pub eight_told : StandsForTold (Some 8) 8
unfolding refusal
eight_told = record { refused = λ n q m. refl; same = λ _. refl }

pub sixteen_told : StandsForTold (Some 16) 16
unfolding refusal
sixteen_told = record { refused = λ n q m. refl; same = λ _. refl }

-- a grain that isn't allowed is refused as 0 is
pub other_told : (grain : ℕ) → grain ≢ 8 → grain ≢ 16 → StandsForTold (Some grain) 0
unfolding refusal refusal_where
other_told grain not_eight not_sixteen =
    let refused : is_told_grain (Some grain) ≡ false = rw (ne_eqb grain 8 not_eight, ne_eqb grain 16 not_sixteen) refl in
    record {
      refused = λ n q m. ap (λ allowed. refusal_where allowed (record { n = n; q = q; m = m; grain = grain })) (sym refused);
      same = λ allowed. absurd (true≢false (sym allowed ∙ refused));
    }

pub accepted : (h : Head) (g : ℕ) (r : Result Limits LimitFault) → StandsForTold h.grain g → IfOk r (λ b. b ≡ record { n = h.n; q = h.q; m = h.m; grain = g }) → (IsOk r → IsLawful (record { n = h.n; q = h.q; m = h.m; grain = g })) → IfOk r (λ b. (head_refusal h ≡ None) × (b ≡ limits_of h))
accepted h g (Ok b) stands is lawful =
    let none : head_refusal h ≡ None = sym (stands.refused h.n h.q h.m) ∙ lawful refl in
    (none, is ∙ ap (λ k. record { n = h.n; q = h.q; m = h.m; grain = k }) (stands.same (told_allowed h none)))
accepted h g (Err fault) stands is lawful = tt
