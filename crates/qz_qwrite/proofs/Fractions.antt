-- Fractions in lowest terms, step by step.
use Rattle.std.proofs.Common.{◌≡◌, ◌≢◌, ℕ, zero, suc, ◌-◌, ◌/◌, ◌%◌, ◌^◌, ◌<◌, refl, arith, ne_eqb}
use Rattle.qz_circ.specs.ProgramText.{lowest_terms}

-- an even numerator is halved
pub lowest-halved : (n m : ℕ) → 0 < n → m % 2 ≡ 0 → lowest_terms (n - 1) (m / 2) ≡ lowest_terms n m
unfolding lowest_terms
lowest-halved zero m some even = absurd (omega arith)
lowest-halved (suc n) m some even = let less : suc n - 1 ≡ n = omega arith in rw (less, even) refl

-- over 1 it is in lowest terms
pub lowest-whole : (n m : ℕ) → n ≡ 0 → lowest_terms n m ≡ (m, 2 ^ n)
unfolding lowest_terms
lowest-whole n m none = rw none refl

-- with an odd numerator it is in lowest terms
pub lowest-odd : (n m : ℕ) → 0 < n → m % 2 ≢ 0 → lowest_terms n m ≡ (m, 2 ^ n)
unfolding lowest_terms
lowest-odd zero m some odd = absurd (omega arith)
lowest-odd (suc n) m some odd = rw (ne_eqb (m % 2) 0 odd) refl
