-- Sums of monomials with whole coefficients, as lists of terms.
use Rattle.std.specs.Prelude.{◌≢◌, ℕ, ◌+◌, ◌<◌, max, Bool, true, false, List, [], ◌∷◌, if◌then◌else◌, ℤ, pos, ◌+ℤ◌, ◌-ℤ◌, neg_ℤ, unsigned_abs}
use Rattle.std.specs.List.{All, AllPairs}
use Rattle.qz_ring.specs.Exponent.{Exponent, plus, same_exponent, with_turns, ExponentBefore, reach_of}

-- a monomial with a whole coefficient
pub record Term : Type 0 where
  pub exponent : Exponent
  pub coefficient : ℤ

-- a sum of terms
abbrev pub Terms : Type 0
Terms = List Term

-- the number, with the other sign if it is negated
abbrev pub signed : Bool → ℤ → ℤ
signed true z = neg_ℤ z
signed false z = z

-- the term, with the other sign if it is negated
abbrev pub signed_term : Bool → Term → Term
signed_term negated t = record { exponent = t.exponent; coefficient = signed negated t.coefficient }

-- what one term adds to the coefficient at an exponent
abbrev pub part_at : Term → Exponent → ℤ
part_at t e = if same_exponent t.exponent e then t.coefficient else pos 0

-- the sum of the coefficients of the terms with this exponent
abbrev pub coefficient_at : Terms → Exponent → ℤ
coefficient_at [] e = pos 0
coefficient_at (t ∷ ts) e = part_at t e +ℤ coefficient_at ts e

-- how often the monomial counts: half a circle further it counts with the other sign
abbrev pub count : Terms → Exponent → ℤ
count ts e = coefficient_at ts e -ℤ coefficient_at ts (with_turns e 256)

-- the sum of the absolute coefficients
abbrev pub weight_of : Terms → ℕ
weight_of [] = 0
weight_of (t ∷ ts) = unsigned_abs t.coefficient + weight_of ts

-- the largest absolute value of a power in any term
abbrev pub largest_reach : Terms → ℕ
largest_reach [] = 0
largest_reach (t ∷ ts) = max (reach_of t.exponent) (largest_reach ts)

-- the largest absolute value of a power once each term is multiplied by the monomial
abbrev pub reach_times : Terms → Exponent → ℕ
reach_times [] by = 0
reach_times (t ∷ ts) by = max (reach_of (plus t.exponent by)) (reach_times ts by)

-- the one form of a sum: turns below half a circle, no coefficient 0, and rising exponents
pub record IsCanonical (ts : Terms) : Type 0 where
  pub half_turns : All (λ t. t.exponent.turn < 256) ts
  pub nonzero : All (λ t. t.coefficient ≢ pos 0) ts
  pub rising : AllPairs (λ t u. ExponentBefore t.exponent u.exponent) ts
