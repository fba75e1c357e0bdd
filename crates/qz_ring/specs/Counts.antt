-- What sums and products count, at every exponent.
use Rattle.std.specs.Prelude.{◌≡◌, ◌≢◌, ◌<◌, ◌⊎◌, pos, ◌+ℤ◌, ◌-ℤ◌}
use Rattle.qz_ring.specs.Exponent.{Exponent, IsExponent, ExponentBefore, minus, turn_alone}
use Rattle.qz_ring.specs.Terms.{Terms, count}

-- both count the same at every exponent
abbrev pub SameCounts : Terms → Terms → Type 0
SameCounts a b = (e : Exponent) → IsExponent e → count a e ≡ count b e

-- it counts nothing at any exponent
abbrev pub CountsNothing : Terms → Type 0
CountsNothing a = (e : Exponent) → IsExponent e → count a e ≡ pos 0

-- of the exponents below half a circle at which a counts something, lead is the least
pub record IsLeast (a : Terms) (lead : Exponent) : Type 0 where
  pub half_turn : lead.turn < 256
  pub counted : count a lead ≢ pos 0
  pub least : (e : Exponent) → e.turn < 256 → count a e ≢ pos 0 → (e ≡ lead) ⊎ ExponentBefore lead e

-- new counts what a and b count together
abbrev pub IsSum : Terms → Terms → Terms → Type 0
IsSum a b new = (e : Exponent) → IsExponent e → count new e ≡ count a e +ℤ count b e

-- new counts what a counts less what b counts
abbrev pub IsDifference : Terms → Terms → Terms → Type 0
IsDifference a b new = (e : Exponent) → IsExponent e → count new e ≡ count a e -ℤ count b e

-- new is old times the monomial: it counts what old counts at the exponent less the monomial's
abbrev pub IsTimesMonomial : Exponent → Terms → Terms → Type 0
IsTimesMonomial by old new = (e : Exponent) → IsExponent e → count new e ≡ count old (minus e by)

-- new is old times the square root of 2, which is an eighth of a circle less three eighths of a circle
abbrev pub IsTimesRoot2 : Terms → Terms → Type 0
IsTimesRoot2 old new = (e : Exponent) → IsExponent e → count new e ≡ count old (minus e (turn_alone 64)) -ℤ count old (minus e (turn_alone 192))
