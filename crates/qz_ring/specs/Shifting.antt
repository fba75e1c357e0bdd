-- Sums times a monomial.
use Rattle.std.specs.Prelude.{◌≡◌, ◌%◌, length, nat_le}
use Rattle.qz_ring.specs.Exponent.{Exponent, plus}
use Rattle.qz_ring.specs.Terms.{Term, Terms, signed, weight_of, largest_reach, reach_times, IsCanonical}
use Rattle.qz_ring.specs.Counts.{IsTimesMonomial}

-- the exponent with its turn brought below half a circle
abbrev pub below_half_turn : Exponent → Exponent
below_half_turn e = record { turn = e.turn % 256; x0 = e.x0; x1 = e.x1; x2 = e.x2 }

-- the term times the monomial, where half a circle changes the sign
abbrev pub shifted_term : Exponent → Term → Term
shifted_term by t = let e = plus t.exponent by in record { exponent = below_half_turn e; coefficient = signed (nat_le 256 e.turn) t.coefficient }

-- new is old times the monomial, in its one form
pub record IsShifted (by : Exponent) (old new : Terms) : Type 0 where
  pub canonical : IsCanonical new
  pub counts : IsTimesMonomial by old new
  pub weight : weight_of new ≡ weight_of old
  pub length : length new ≡ length old
  pub reach : largest_reach new ≡ reach_times old by
