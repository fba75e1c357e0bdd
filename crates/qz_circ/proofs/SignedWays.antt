-- Signs of ways, single ways, and ways with proper exponents.
use Rattle.std.proofs.Common.{Bool, true, false, List, [], ◌∷◌}
use Rattle.std.specs.Prelude.{ℤ, pos, negsuc, neg_ℤ}
use Rattle.std.specs.List.{AllByRecursion}
use Rattle.qz_circ.specs.Exponent.{Exponent, IsExponent}
use Rattle.qz_circ.specs.Paths.{Path}

-- the number, with the other sign if it is negated
abbrev pub signed : Bool → ℤ → ℤ
signed true z = neg_ℤ z
signed false z = z

-- the sign of a way: -1 where it is negated, and else 1
abbrev pub sign_of : Bool → ℤ
sign_of true = negsuc 0
sign_of false = pos 1

-- the one way with this sign and exponent
abbrev pub one_way : Bool → Exponent → List Path
one_way negated x = record { sign = sign_of negated; exponent = x } ∷ []

-- every way's exponent has a turn below 512
abbrev pub AreProper : List Path → Type 0
AreProper ps = AllByRecursion (λ p. IsExponent p.exponent) ps
