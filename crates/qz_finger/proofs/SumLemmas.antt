-- What an action makes of weighed sums is the weighed sum of what it makes of the numbers.
use Rattle.std.proofs.Common.{◌≡◌, ℕ, zero, suc, ◌+◌, ◌*◌, ◌<◌, ◌==◌, ◌⊎◌, inl, inr, Bool, true, false, refl, sym, ap, ◌∙◌, subst, arith}
use Rattle.std.specs.Prelude.{if◌then◌else◌}
use Rattle.std.proofs.lemmas.Bool.{cases_eq}
use Rattle.std.proofs.lemmas.Bool.Decides.{nat_tests}
use Rattle.qz_finger.specs.declared.actions.Action.{Action}
use Rattle.qz_finger.specs.declared.actions.Action.TheVariants.{Mix, Flip, FlipWhere, Turn}
use Rattle.qz_finger.specs.Modulo.{sum_below}
use Rattle.qz_finger.specs.Actions.{acted}

-- of nothing
acted_none : (a : Action) (b c : Bool) → acted a b c 0 0 ≡ 0
acted_none Mix b true = refl
acted_none Mix b false = refl
acted_none Flip b c = refl
acted_none FlipWhere true c = refl
acted_none FlipWhere false c = refl
acted_none (Turn u) b true = omega arith
acted_none (Turn u) b false = refl

-- of one pair of numbers more, with a weight
acted_more : (a : Action) (b c : Bool) (x y w x' y' : ℕ) → acted a b c x y + w * acted a b c x' y' ≡ acted a b c (x + w * x') (y + w * y')
acted_more Mix b true x y w x' y' = omega arith
acted_more Mix b false x y w x' y' = omega arith
acted_more Flip b c x y w x' y' = refl
acted_more FlipWhere true c x y w x' y' = refl
acted_more FlipWhere false c x y w x' y' = refl
acted_more (Turn u) b true x y w x' y' = omega arith
acted_more (Turn u) b false x y w x' y' = refl

-- of weighed sums
pub acted_sum : (a : Action) (b c : Bool) (w f g : ℕ → ℕ) (n : ℕ) → sum_below (λ j. w j * acted a b c (f j) (g j)) n ≡ acted a b c (sum_below (λ j. w j * f j) n) (sum_below (λ j. w j * g j) n)
unfolding sum_below
acted_sum a b c w f g zero = sym (acted_none a b c)
acted_sum a b c w f g (suc n) =
    ap (λ x. x + w n * acted a b c (f n) (g n)) (acted_sum a b c w f g n) ∙
    acted_more a b c (sum_below (λ j. w j * f j) n) (sum_below (λ j. w j * g j) n) (w n) (f n) (g n)

-- numbers of which all but those from n on are left out
none_before : (w : ℕ → ℕ) (l n : ℕ) → (n < l) ⊎ (n ≡ l) → sum_below (λ j. w j * (if l == j then 1 else 0)) n ≡ 0
unfolding sum_below
none_before w l zero before = refl
none_before w l (suc n) before =
    let apart : (l == n) ≡ false = grind (arith, nat_tests, before) in
    let rest = none_before w l n (inl (omega (arith, before))) in
    let last : w n * (if l == n then 1 else 0) ≡ 0 = rw apart (omega arith) in
    omega arith

-- of weighed numbers that are all 0 but one, which is 1, its weight is left
pub one_weight : (w : ℕ → ℕ) (l n : ℕ) → l < n → sum_below (λ j. w j * (if l == j then 1 else 0)) n ≡ w l
unfolding sum_below
one_weight w l zero less = absurd (omega arith)
one_weight w l (suc n) less = by (λ h. one_weight w l n h) (cases_eq l n)
  where
    by : (l < n → sum_below (λ j. w j * (if l == j then 1 else 0)) n ≡ w l) → (l ≡ n) ⊎ (l ≡ n → ⊥) → sum_below (λ j. w j * (if l == j then 1 else 0)) n + w n * (if l == n then 1 else 0) ≡ w l
    by before (inl same) =
        let test : (l == n) ≡ true = grind (arith, nat_tests) in
        let last : w n * (if l == n then 1 else 0) ≡ w n = rw test (omega arith) in
        let rest = none_before w l n (inr (sym same)) in
        let here = ap w same in
        omega arith
    by before (inr apart) =
        let test : (l == n) ≡ false = grind (arith, nat_tests) in
        let last : w n * (if l == n then 1 else 0) ≡ 0 = rw test (omega arith) in
        let rest = before (omega arith) in
        omega arith
