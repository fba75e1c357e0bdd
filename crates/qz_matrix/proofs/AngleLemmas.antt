-- The powers of the exponent of an angle are at most 1.
use Rattle.std.proofs.Common.{◌≡◌, ◌≢◌, ℕ, ◌≤◌, ◌==◌, Bool, true, false, refl, arith}
use Rattle.std.specs.Prelude.{pos, ◌+ℤ◌, ◌-ℤ◌, unsigned_abs, if◌then◌else◌}
use Rattle.std.proofs.lemmas.Bool.Decides.{nat_tests}
use Rattle.qz_circ.specs.declared.circuit.Expr.{Expr}
use Rattle.qz_circ.specs.declared.circuit.Expr.TheVariants.{Const, Plus, Minus, Sum}
use Rattle.qz_circ.specs.Circuit.{AngleHasBelow}
use Rattle.qz_circ.specs.Exponent.{unit_at, angle_exponent}
use Rattle.qz_ring.specs.Exponent.{reach_of}
use Rattle.qz_matrix.specs.AfterGate.{monomial_of}

-- a parameter has the power 0 or 1
unit_low : (b : Bool) → unsigned_abs (if b then pos 1 else pos 0) ≤ 1
unit_low true = omega arith
unit_low false = omega arith

-- and its negative the power 0 or -1
less_unit_low : (b : Bool) → unsigned_abs (pos 0 -ℤ (if b then pos 1 else pos 0)) ≤ 1
less_unit_low true = omega arith
less_unit_low false = omega arith

-- two different parameters together have the power 0 or 1
units_low : (i j k : ℕ) → i ≢ j → unsigned_abs (unit_at i k +ℤ unit_at j k) ≤ 1
units_low i j k apart = by_tests (i == k) (j == k) (λ first second. apart (grind (arith, nat_tests)))
  where
    by_tests : (a b : Bool) → (a ≡ true → b ≡ true → ⊥) → unsigned_abs ((if a then pos 1 else pos 0) +ℤ (if b then pos 1 else pos 0)) ≤ 1
    by_tests true true both = absurd (both refl refl)
    by_tests true false both = omega arith
    by_tests false true both = omega arith
    by_tests false false both = omega arith

-- the powers of an angle are at most 1
pub angle_reach : (n : ℕ) (angle : Expr) → AngleHasBelow n angle → reach_of (monomial_of (angle_exponent angle)) ≤ 1
angle_reach n (Const t) has = omega arith
angle_reach n (Plus i) has = omega (arith, unit_low (i == 0), unit_low (i == 1), unit_low (i == 2))
angle_reach n (Minus i) has = omega (arith, less_unit_low (i == 0), less_unit_low (i == 1), less_unit_low (i == 2))
angle_reach n (Sum i j) has = omega (arith, units_low i j 0 has.2, units_low i j 1 has.2, units_low i j 2 has.2)
