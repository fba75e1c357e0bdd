-- Absolute values and signs of whole numbers.
use Rattle.std.proofs.Common.{◌≡◌, ◌+◌, ◌≤◌, true, false, Bool, zero, suc, ℤ, pos, negsuc, ◌+ℤ◌, neg_ℤ, ◌^◌, to_z, of_z, refl, sym, subst, arith}
use Rattle.std.specs.Prelude.{unsigned_abs, FitsSigned}
use Rattle.std.specs.Int.{w64, w128}
use Rattle.std.proofs.lemmas.Int.{ints, to_z-of_z, fits_signed_from_abs}
use Rattle.qz_ring.specs.Terms.{signed}

-- the absolute value of a sum is at most the sum of the absolute values
pub unsigned_abs-add : (a b : ℤ) → unsigned_abs (a +ℤ b) ≤ unsigned_abs a + unsigned_abs b
unsigned_abs-add a b = grind (arith, ints)

-- the other sign keeps the absolute value
pub unsigned_abs-neg : (a : ℤ) → unsigned_abs (neg_ℤ a) ≡ unsigned_abs a
unsigned_abs-neg (pos zero) = refl
unsigned_abs-neg (pos (suc n)) = refl
unsigned_abs-neg (negsuc n) = refl

-- so does a sign
pub unsigned_abs-signed : (n : Bool) (a : ℤ) → unsigned_abs (signed n a) ≡ unsigned_abs a
unsigned_abs-signed true a = unsigned_abs-neg a
unsigned_abs-signed false a = refl

-- a sign goes over a sum
pub signed-add : (n : Bool) (a b : ℤ) → signed n (a +ℤ b) ≡ signed n a +ℤ signed n b
signed-add true a b = omega (arith, ints)
signed-add false a b = refl

-- the sum of x and y, as the code makes it, does not overflow and is z
abbrev pub IsCodeSum : ℤ → ℤ → ℤ → Type 0
IsCodeSum x y z = FitsSigned w64 (to_z w64 (of_z w64 x) +ℤ to_z w64 (of_z w64 y)) × (to_z w64 (of_z w64 (to_z w64 (of_z w64 x) +ℤ to_z w64 (of_z w64 y))) ≡ z)

-- so it is with two powers and their sum
pub power_sum : (x y p q : ℤ) → x ≡ p → y ≡ q → unsigned_abs p ≤ 2 ^ 40 → unsigned_abs (p +ℤ q) ≤ 2 ^ 40 → IsCodeSum x y (p +ℤ q)
power_sum x y p q first second small small_sum =
    let other : q ≡ (p +ℤ q) +ℤ neg_ℤ p = omega (arith, ints) in
    let bound : unsigned_abs q ≤ unsigned_abs (p +ℤ q) + unsigned_abs (neg_ℤ p) = subst (λ (z : ℤ). unsigned_abs z ≤ unsigned_abs (p +ℤ q) + unsigned_abs (neg_ℤ p)) (sym other) (unsigned_abs-add (p +ℤ q) (neg_ℤ p)) in
    let same = unsigned_abs-neg p in
    let fits = fits_signed_from_abs w64 (p +ℤ q) (omega arith) in
    rw (first, second, to_z-of_z w64 p (fits_signed_from_abs w64 p (omega arith)), to_z-of_z w64 q (fits_signed_from_abs w64 q (omega arith))) (fits, to_z-of_z w64 (p +ℤ q) fits)

-- the absolute value of a coefficient, as the code reads it
pub unsigned_abs-read : (x z : ℤ) → x ≡ z → unsigned_abs z ≤ 2 ^ 120 → unsigned_abs (to_z w128 (of_z w128 x)) ≡ unsigned_abs z
unsigned_abs-read x z read small = rw (read, to_z-of_z w128 z (fits_signed_from_abs w128 z (omega arith))) refl
