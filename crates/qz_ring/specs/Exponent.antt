-- The exponents of monomials: a turn, and a power of each of three unknowns.
use Rattle.std.specs.Prelude.{◌≡◌, ℕ, ◌+◌, ◌-◌, ◌%◌, ◌<◌, max, Bool, ◌&&◌, ◌⊎◌, ◌==◌, ℤ, pos, ◌+ℤ◌, ◌-ℤ◌, ◌<ℤ◌, unsigned_abs}
use Rattle.std.specs.Ordering.{int_eq}

-- a turn, in 512ths of a full circle, and the powers of the three unknowns
pub record Exponent : Type 0 where
  pub turn : ℕ
  pub x0 : ℤ
  pub x1 : ℤ
  pub x2 : ℤ

-- the turn is less than a full circle
abbrev pub IsExponent : Exponent → Type 0
IsExponent e = e.turn < 512

-- the exponent of one: no turn, no powers
abbrev pub zero_exponent : Exponent
zero_exponent = record { turn = 0; x0 = pos 0; x1 = pos 0; x2 = pos 0 }

-- the exponent of the turn alone, with no powers
abbrev pub turn_alone : ℕ → Exponent
turn_alone k = record { turn = k; x0 = pos 0; x1 = pos 0; x2 = pos 0 }

-- the exponent of a product: the turns add up round the circle, and the powers add up
abbrev pub plus : Exponent → Exponent → Exponent
plus a b = record { turn = (a.turn + b.turn) % 512; x0 = a.x0 +ℤ b.x0; x1 = a.x1 +ℤ b.x1; x2 = a.x2 +ℤ b.x2 }

-- the exponent of a quotient: b is taken back from a
abbrev pub minus : Exponent → Exponent → Exponent
minus a b = record { turn = (a.turn + (512 - b.turn)) % 512; x0 = a.x0 -ℤ b.x0; x1 = a.x1 -ℤ b.x1; x2 = a.x2 -ℤ b.x2 }

-- the exponent turned on by k, with the same powers
abbrev pub with_turns : Exponent → ℕ → Exponent
with_turns e k = record { turn = (e.turn + k) % 512; x0 = e.x0; x1 = e.x1; x2 = e.x2 }

-- whether two exponents have the same powers
abbrev pub same_powers : Exponent → Exponent → Bool
same_powers a b = int_eq a.x0 b.x0 && (int_eq a.x1 b.x1 && int_eq a.x2 b.x2)

-- whether two exponents are the same
abbrev pub same_exponent : Exponent → Exponent → Bool
same_exponent a b = (a.turn == b.turn) && same_powers a b

-- the powers of a come before those of b, from the first unknown to the last
abbrev pub PowersBefore : Exponent → Exponent → Type 0
PowersBefore a b = (a.x0 <ℤ b.x0) ⊎ ((a.x0 ≡ b.x0) × ((a.x1 <ℤ b.x1) ⊎ ((a.x1 ≡ b.x1) × (a.x2 <ℤ b.x2))))

-- a comes before b: by turn, and at the same turn by the powers
abbrev pub ExponentBefore : Exponent → Exponent → Type 0
ExponentBefore a b = (a.turn < b.turn) ⊎ ((a.turn ≡ b.turn) × PowersBefore a b)

-- the largest absolute value of a power
abbrev pub reach_of : Exponent → ℕ
reach_of e = max (unsigned_abs e.x0) (max (unsigned_abs e.x1) (unsigned_abs e.x2))
