-- The greatest divisor by search is the one of all common divisors.
use Rattle.std.proofs.Common.{◌≡◌, ℕ, zero, suc, ◌%◌, ◌<◌, ◌≤◌, ◌⊎◌, inl, inr, Bool, true, false, ◌&&◌, refl, arith, ◌==◌}
use Rattle.std.specs.Int.{IsGcd, ◌∣◌}
use Rattle.std.proofs.lemmas.Nat.Gcd.{le_from_IsGcd, dvd_of_mod-eq-zero, mod-eq-zero_of_dvd, le_of_dvd}
use Rattle.std.proofs.Math.Nat.{pos_of_dvd_of_pos}
use Rattle.std.proofs.lemmas.Bool.Decides.{nat_tests}
use Rattle.qz_circ.specs.Angle.{divisor_up_to, greatest_divisor}

-- whether a number divides both
abbrev divides_both : ℕ → ℕ → ℕ → Bool
divides_both d a b = a % d == 0 && b % d == 0

divides_both-yes : (d a b : ℕ) → d ∣ a → d ∣ b → divides_both d a b ≡ true
divides_both-yes d a b l r = let p = mod-eq-zero_of_dvd d l in let q = mod-eq-zero_of_dvd d r in rw (p, q) refl

divides_both-parts : (d a b : ℕ) → divides_both d a b ≡ true → (a % d ≡ 0) × (b % d ≡ 0)
divides_both-parts d a b h = (grind (arith, nat_tests), grind (arith, nat_tests))

-- no number above the greatest common divisor passes the test
divides_both-no : (d a b g : ℕ) → IsGcd a b g → 0 < g → g < d → divides_both d a b ≡ false
divides_both-no d a b g is some above =
    elim (divides_both d a b) as (λ t. divides_both d a b ≡ t → t ≡ false) [
      | true ↦ λ h. (let parts = divides_both-parts d a b h in absurd (omega (arith, le_from_IsGcd a b g d is some (dvd_of_mod-eq-zero d parts.0) (dvd_of_mod-eq-zero d parts.1))))
      | false ↦ λ h. refl
    ] refl

split : (k g : ℕ) → g ≤ suc k → (g ≡ suc k) ⊎ (g ≤ k)
split k g le = grind arith

-- a number of at most one more is that one or isn't above
by_same_or_below : {P : Type 0} (k g : ℕ) → g ≤ suc k → (g ≡ suc k → P) → (g ≤ k → P) → P
by_same_or_below k g le same below = elim (split k g le) [ inl e ↦ same e | inr l ↦ below l ]

-- the search from any number that isn't below it finds the greatest common divisor
search_finds : (k a b g : ℕ) → IsGcd a b g → 0 < g → g ≤ k → divisor_up_to k a b ≡ g
unfolding divisor_up_to
search_finds zero a b g is some le = absurd (omega arith)
search_finds (suc k) a b g is some le =
    by_same_or_below k g le
    (λ same. rw (← same) (rw (divides_both-yes g a b is.0 is.1) refl))
    (λ below. rw (divides_both-no (suc k) a b g is some (omega arith)) (search_finds k a b g is some below))

pub gcd_is : (a b g : ℕ) → IsGcd a b g → 0 < b → greatest_divisor a b ≡ g
unfolding greatest_divisor
gcd_is a b g is some = search_finds b a b g is (pos_of_dvd_of_pos is.1 some) (le_of_dvd some is.1)
