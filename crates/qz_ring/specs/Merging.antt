-- What holds while two sums are added or subtracted, term by term.
use Rattle.std.specs.Prelude.{◌≡◌, ◌+◌, ◌≤◌, max, Bool, ◌++◌, length, [], ◌∷◌, if◌then◌else◌, pos, ◌+ℤ◌}
use Rattle.std.specs.Ordering.{int_eq}
use Rattle.qz_ring.specs.Exponent.{Exponent}
use Rattle.qz_ring.specs.Terms.{Term, Terms, signed, coefficient_at, weight_of, largest_reach, IsCanonical}

-- the sum of two terms whose exponents are equal, and only for such: one term, or none if the coefficients cancel
abbrev pub sum_of_two : Term → Term → Terms
sum_of_two a b = if int_eq (a.coefficient +ℤ b.coefficient) (pos 0) then [] else (record { exponent = a.exponent; coefficient = a.coefficient +ℤ b.coefficient } ∷ [])

-- out and what is left of both sums still make up the whole sum, and out may go before either rest
pub record IsMerging (negated : Bool) (left right out left_rest right_rest : Terms) : Type 0 where
  pub canonical_left : IsCanonical (out ++ left_rest)
  pub canonical_right : IsCanonical (out ++ right_rest)
  pub coefficients : (e : Exponent) → (coefficient_at out e +ℤ coefficient_at left_rest e) +ℤ signed negated (coefficient_at right_rest e) ≡ coefficient_at left e +ℤ signed negated (coefficient_at right e)
  pub weight : weight_of out + weight_of left_rest + weight_of right_rest ≤ weight_of left + weight_of right
  pub reach : max (largest_reach out) (max (largest_reach left_rest) (largest_reach right_rest)) ≤ max (largest_reach left) (largest_reach right)
  pub length : length out + length left_rest + length right_rest ≤ length left + length right

-- the list is the sum, or the difference, of left and right in its one form
pub record IsMerged (negated : Bool) (left right merged : Terms) : Type 0 where
  pub canonical : IsCanonical merged
  pub coefficients : (e : Exponent) → coefficient_at merged e ≡ coefficient_at left e +ℤ signed negated (coefficient_at right e)
  pub weight : weight_of merged ≤ weight_of left + weight_of right
  pub reach : largest_reach merged ≤ max (largest_reach left) (largest_reach right)
