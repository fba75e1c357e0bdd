-- Exponents of monomials in ζ, x0, x1 and x2. ζ is e^(iπ/256), and xk is e^(i·θk) for the angle θk that parameter k stands for.
use Rattle.std.specs.Prelude.{ℕ, ◌+◌, ◌-◌, ◌*◌, ◌%◌, ◌<◌, ◌==◌, ◌&&◌, Bool, if◌then◌else◌, ℤ, pos, ◌+ℤ◌, ◌-ℤ◌}
use Rattle.std.specs.Ordering.{int_eq}
use Rattle.qz_circ.specs.declared.circuit.Expr.{Expr}
use Rattle.qz_circ.specs.declared.circuit.Expr.TheVariants.{Const, Plus, Minus, Sum}

-- the power of ζ, which counts modulo 512 and is called the turn, and the powers of x0, x1 and x2
pub record Exponent : Type 0 where
  pub turn : ℕ
  pub x0 : ℤ
  pub x1 : ℤ
  pub x2 : ℤ

-- the turn is below 512, since ζ^512 is 1
abbrev pub IsExponent : Exponent → Type 0
IsExponent e = e.turn < 512

-- k turns, and no parameter
abbrev pub turn_of : ℕ → Exponent
turn_of k = record { turn = k % 512; x0 = pos 0; x1 = pos 0; x2 = pos 0 }

-- the exponent of 1
abbrev pub zero_exponent : Exponent
zero_exponent = record { turn = 0; x0 = pos 0; x1 = pos 0; x2 = pos 0 }

-- 1 at the parameter with this number, and 0 at the others
abbrev pub unit_at : ℕ → ℕ → ℤ
unit_at i k = if i == k then pos 1 else pos 0

-- the exponent of parameter 0, 1 or 2; there are no others, and a greater number counts as none of them
abbrev pub param : ℕ → Exponent
param i = record { turn = 0; x0 = unit_at i 0; x1 = unit_at i 1; x2 = unit_at i 2 }

-- the exponent of a product
abbrev pub plus : Exponent → Exponent → Exponent
plus d e = record { turn = (d.turn + e.turn) % 512; x0 = d.x0 +ℤ e.x0; x1 = d.x1 +ℤ e.x1; x2 = d.x2 +ℤ e.x2 }

-- the exponent of a quotient, where both turns are below 512
abbrev pub minus : Exponent → Exponent → Exponent
minus d e = record { turn = (d.turn + (512 - e.turn)) % 512; x0 = d.x0 -ℤ e.x0; x1 = d.x1 -ℤ e.x1; x2 = d.x2 -ℤ e.x2 }

-- the exponent with k more turns
abbrev pub with_turns : Exponent → ℕ → Exponent
with_turns e k = record e { turn = (e.turn + k) % 512 }

-- the same turn and the same powers
abbrev pub same_exponent : Exponent → Exponent → Bool
same_exponent d e = d.turn == e.turn && int_eq d.x0 e.x0 && int_eq d.x1 e.x1 && int_eq d.x2 e.x2

-- the turn of Const(t), which is t·π/16: 16·t turns, modulo 512
abbrev pub constant_turn : ℕ → ℕ
constant_turn t = 16 * t % 512

-- the exponent of e^(iθ) at a rule's angle θ
abbrev pub angle_exponent : Expr → Exponent
angle_exponent (Const t) = record { turn = constant_turn t; x0 = pos 0; x1 = pos 0; x2 = pos 0 }
angle_exponent (Plus i) = param i
angle_exponent (Minus i) = minus zero_exponent (param i)
angle_exponent (Sum i j) = plus (param i) (param j)

-- a rule's angle as a number of turns, where the parameter with number i stands for p i turns, below 512
abbrev pub angle_value : (ℕ → ℕ) → Expr → ℕ
angle_value p (Const t) = constant_turn t
angle_value p (Plus i) = p i % 512
angle_value p (Minus i) = (512 - p i % 512) % 512
angle_value p (Sum i j) = (p i + p j) % 512
