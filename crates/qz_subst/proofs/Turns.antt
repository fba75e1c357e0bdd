-- Exponents with values for the parameters: whole turns, by a change that goes over sums.
use Rattle.std.proofs.Common.{◌≡◌, ℕ, zero, suc, ◌+◌, ◌-◌, ◌*◌, ◌/◌, ◌%◌, ◌<◌, refl, sym, ap, ◌∙◌, arith}
use Rattle.std.specs.Prelude.{ℤ, pos, negsuc, ◌+ℤ◌}
use Rattle.std.proofs.lemmas.Int.{ints}
use Rattle.qz_circ.specs.declared.circuit.Expr.{Expr}
use Rattle.qz_circ.specs.declared.circuit.Expr.TheVariants.{Const, Plus, Minus, Sum}
use Rattle.qz_circ.specs.Circuit.{AngleHasBelow}
use Rattle.qz_circ.specs.Exponent.{Exponent, IsExponent, zero_exponent, turn_of, param, plus, minus, constant_turn, angle_exponent, angle_value}
use Rattle.qz_circ.proofs.Exponents.{exponent_eq}

-- ---- whole numbers of turns

-- a number n times
abbrev scaled : ℕ → ℤ → ℤ
scaled zero z = pos 0
scaled (suc n) z = z +ℤ scaled n z

-- it goes over sums
scaled_sum : (n : ℕ) (y z : ℤ) → scaled n (y +ℤ z) ≡ scaled n y +ℤ scaled n z
scaled_sum zero y z = refl
scaled_sum (suc n) y z = let rest = scaled_sum n y z in omega (arith, ints)

-- 0 and 1, n times
scaled_zero : (n : ℕ) → scaled n (pos 0) ≡ pos 0
scaled_zero zero = refl
scaled_zero (suc n) = let rest = scaled_zero n in omega (arith, ints)

scaled_one : (n : ℕ) → scaled n (pos 1) ≡ pos n
scaled_one zero = refl
scaled_one (suc n) = let rest = scaled_one n in omega (arith, ints)

-- the turn from 0 to 511 that a whole number of turns is
abbrev to_turn : ℤ → ℕ
to_turn (pos n) = n % 512
to_turn (negsuc n) = 511 - n % 512

-- it is below 512
to_turn_below : (z : ℤ) → to_turn z < 512
to_turn_below (pos n) = omega arith
to_turn_below (negsuc n) = omega arith

-- the number is the turn and some circles
record IsTurn (z : ℤ) (r : ℕ) : Type 0 where
  back : ℕ
  forth : ℕ
  same : z +ℤ pos (back * 512) ≡ pos (r + forth * 512)

-- so it is of its turn
its_turn : (z : ℤ) → IsTurn z (to_turn z)
its_turn (pos n) = record { back = 0; forth = n / 512; same = omega (arith, ints) }
its_turn (negsuc n) = record { back = n / 512 + 1; forth = 0; same = omega (arith, ints) }

-- and of no other
to_turn_is : (z : ℤ) (r : ℕ) → r < 512 → IsTurn z r → to_turn z ≡ r
to_turn_is (pos n) r less is = let same = is.same in omega (arith, ints)
to_turn_is (negsuc n) r less is = let same = is.same in omega (arith, ints)

-- the turn of a sum, of which some circles may be taken away
turn_of_sum : (y z w : ℤ) (m : ℕ) → w +ℤ pos (m * 512) ≡ y +ℤ z → to_turn w ≡ (to_turn y + to_turn z) % 512
turn_of_sum y z w m h =
    let first = its_turn y in
    let second = its_turn z in
    let left = first.same in
    let right = second.same in
    to_turn_is w ((to_turn y + to_turn z) % 512) (omega arith) (record {
      back = m + first.back + second.back;
      forth = (to_turn y + to_turn z) / 512 + first.forth + second.forth;
      same = omega (arith, ints);
    })

-- ---- exponents

-- the whole number of turns, where p says the values of the parameters
abbrev turns : (ℕ → ℕ) → Exponent → ℤ
turns p e = pos e.turn +ℤ scaled (p 0) e.x0 +ℤ scaled (p 1) e.x1 +ℤ scaled (p 2) e.x2

-- the exponent with these values
abbrev pub bind : (ℕ → ℕ) → Exponent → Exponent
bind p e = record { turn = to_turn (turns p e); x0 = pos 0; x1 = pos 0; x2 = pos 0 }

-- its turn is below 512
pub bind_proper : (p : ℕ → ℕ) (e : Exponent) → IsExponent (bind p e)
bind_proper p e = to_turn_below (turns p e)

-- it goes over sums
pub bind_plus : (p : ℕ → ℕ) (d e : Exponent) → bind p (plus d e) ≡ plus (bind p d) (bind p e)
bind_plus p d e =
    let a = scaled_sum (p 0) d.x0 e.x0 in
    let b = scaled_sum (p 1) d.x1 e.x1 in
    let c = scaled_sum (p 2) d.x2 e.x2 in
    exponent_eq (bind p (plus d e)) (plus (bind p d) (bind p e)) (turn_of_sum (turns p d) (turns p e) (turns p (plus d e)) ((d.turn + e.turn) / 512) (omega (arith, ints))) refl refl refl

-- whole turns stay
pub bind_turns : (p : ℕ → ℕ) (k : ℕ) → bind p (turn_of k) ≡ turn_of k
bind_turns p k =
    let a = scaled_zero (p 0) in
    let b = scaled_zero (p 1) in
    let c = scaled_zero (p 2) in
    exponent_eq (bind p (turn_of k)) (turn_of k) (to_turn_is (turns p (turn_of k)) (k % 512) (omega arith) (record { back = 0; forth = 0; same = omega (arith, ints) })) refl refl refl

-- the exponent of a parameter becomes its value
bind_param : (p : ℕ → ℕ) (i : ℕ) → i < 3 → bind p (param i) ≡ turn_of (p i)
bind_param p i less = exponent_eq (bind p (param i)) (turn_of (p i)) (to_turn_is (turns p (param i)) (p i % 512) (omega arith) (record { back = 0; forth = p i / 512; same = value i less ∙ (omega (arith, ints)) })) refl refl refl
  where
    value : (i : ℕ) → i < 3 → turns p (param i) +ℤ pos (0 * 512) ≡ pos (p i)
    value zero h = let a = scaled_one (p 0) in let b = scaled_zero (p 1) in let c = scaled_zero (p 2) in omega (arith, ints)
    value (suc zero) h = let a = scaled_zero (p 0) in let b = scaled_one (p 1) in let c = scaled_zero (p 2) in omega (arith, ints)
    value (suc (suc zero)) h = let a = scaled_zero (p 0) in let b = scaled_zero (p 1) in let c = scaled_one (p 2) in omega (arith, ints)
    value (suc (suc (suc i))) h = absurd (omega arith)

-- the exponent of an angle becomes the angle's value
pub bind_angle : (p : ℕ → ℕ) (e : Expr) → AngleHasBelow 3 e → bind p (angle_exponent e) ≡ turn_of (angle_value p e)
bind_angle p (Const t) below = bind_turns p (16 * t) ∙ exponent_eq (turn_of (16 * t)) (turn_of (constant_turn t)) (omega arith) refl refl refl
bind_angle p (Plus i) below = bind_param p i below ∙ exponent_eq (turn_of (p i)) (turn_of (p i % 512)) (omega arith) refl refl refl
bind_angle p (Minus i) below =
    let both : plus (minus zero_exponent (param i)) (param i) ≡ turn_of 0 = exponent_eq (plus (minus zero_exponent (param i)) (param i)) (turn_of 0) (omega arith) (omega (arith, ints)) (omega (arith, ints)) (omega (arith, ints)) in
    let sum = sym (bind_plus p (minus zero_exponent (param i)) (param i)) ∙ ap (bind p) both ∙ bind_turns p 0 in
    let turn = ap (λ (x : Exponent). x.turn) sum in
    let value = ap (λ (x : Exponent). x.turn) (bind_param p i below) in
    let less = bind_proper p (minus zero_exponent (param i)) in
    exponent_eq (bind p (minus zero_exponent (param i))) (turn_of ((512 - p i % 512) % 512)) (negative _ _ (p i) less turn value) refl refl refl
  where
    negative : (x y v : ℕ) → x < 512 → (x + y) % 512 ≡ 0 → y ≡ v % 512 → x ≡ (512 - v % 512) % 512 % 512
    negative x y v less sum value = omega arith
bind_angle p (Sum i j) below =
    bind_plus p (param i) (param j) ∙ (λ d. plus (bind_param p i below.0 d) (bind_param p j below.1 d)) ∙
    exponent_eq (plus (turn_of (p i)) (turn_of (p j))) (turn_of ((p i + p j) % 512)) (omega arith) refl refl refl
