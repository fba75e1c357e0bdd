-- Laws of exponents: sums, differences and half turns.
use Rattle.std.proofs.Common.{◌≡◌, ℕ, ◌+◌, ◌-◌, ◌%◌, ◌<◌, ◌==◌, ◌&&◌, ap, refl, arith}
use Rattle.std.specs.Prelude.{ℤ, ◌+ℤ◌, ◌-ℤ◌}
use Rattle.std.specs.Ordering.{int_eq}
use Rattle.std.specs.Bool.{Decides}
use Rattle.std.proofs.lemmas.Int.{ints}
use Rattle.std.proofs.lemmas.Bool.Decides.{Decides-eqb, Decides-int_eq, Decides-and, same_from_decides, Decides-like}
use Rattle.qz_circ.specs.Exponent.{Exponent, IsExponent, zero_exponent, plus, minus, with_turns, same_exponent}

-- exponents with the same parts are the same
pub exponent_eq : (d e : Exponent) → d.turn ≡ e.turn → d.x0 ≡ e.x0 → d.x1 ≡ e.x1 → d.x2 ≡ e.x2 → d ≡ e
exponent_eq d e t a b c = (λ i. record { turn = t i; x0 = a i; x1 = b i; x2 = c i })

-- the test tells whether two exponents are the same
pub Decides-same_exponent : (d e : Exponent) → Decides (same_exponent d e) (d ≡ e)
Decides-same_exponent d e =
    let parts = Decides-and (((d.turn == e.turn) && int_eq d.x0 e.x0) && int_eq d.x1 e.x1) (int_eq d.x2 e.x2)
    (Decides-and ((d.turn == e.turn) && int_eq d.x0 e.x0) (int_eq d.x1 e.x1)
    (Decides-and (d.turn == e.turn) (int_eq d.x0 e.x0) (Decides-eqb d.turn e.turn) (Decides-int_eq d.x0 e.x0))
    (Decides-int_eq d.x1 e.x1))
    (Decides-int_eq d.x2 e.x2) in
    Decides-like (same_exponent d e) (λ p. exponent_eq d e p.0.0.0 p.0.0.1 p.0.1 p.1)
    (λ p. (((ap (λ (x : Exponent). x.turn) p, ap (λ (x : Exponent). x.x0) p), ap (λ (x : Exponent). x.x1) p), ap (λ (x : Exponent). x.x2) p)) parts

-- two tests of equal facts have the same result
pub same_like : (d e d' e' : Exponent) → (d ≡ e → d' ≡ e') → (d' ≡ e' → d ≡ e) → same_exponent d e ≡ same_exponent d' e'
same_like d e d' e' there back = same_from_decides (same_exponent d e) (same_exponent d' e') (Decides-same_exponent d e) (Decides-like (same_exponent d' e') back there (Decides-same_exponent d' e'))

-- a sum of turns and the difference that undoes it
turn_there : (p r e : ℕ) → p < 512 → r < 512 → e < 512 → (p + r) % 512 ≡ e → p ≡ (e + (512 - r)) % 512
turn_there p r e hp hr he h = omega arith

-- a difference of turns and the sum that undoes it
turn_back : (p r e : ℕ) → p < 512 → r < 512 → e < 512 → p ≡ (e + (512 - r)) % 512 → (p + r) % 512 ≡ e
turn_back p r e hp hr he h = omega arith

-- a sum of powers and the difference that undoes it
power_there : (p r e : ℤ) → p +ℤ r ≡ e → p ≡ e -ℤ r
power_there p r e h = omega (arith, ints)

-- a difference of powers and the sum that undoes it
power_back : (p r e : ℤ) → p ≡ e -ℤ r → p +ℤ r ≡ e
power_back p r e h = omega (arith, ints)

-- p times r has exponent e where p has that of e over r
pub plus_there : (p r e : Exponent) → IsExponent p → IsExponent r → IsExponent e → plus p r ≡ e → p ≡ minus e r
plus_there p r e hp hr he h = exponent_eq p (minus e r) (turn_there p.turn r.turn e.turn hp hr he (ap (λ (x : Exponent). x.turn) h)) (power_there p.x0 r.x0 e.x0 (ap (λ (x : Exponent). x.x0) h)) (power_there p.x1 r.x1 e.x1 (ap (λ (x : Exponent). x.x1) h)) (power_there p.x2 r.x2 e.x2 (ap (λ (x : Exponent). x.x2) h))

-- and where p has the exponent of e over r, p times r has that of e
pub plus_back : (p r e : Exponent) → IsExponent p → IsExponent r → IsExponent e → p ≡ minus e r → plus p r ≡ e
plus_back p r e hp hr he h = exponent_eq (plus p r) e (turn_back p.turn r.turn e.turn hp hr he (ap (λ (x : Exponent). x.turn) h)) (power_back p.x0 r.x0 e.x0 (ap (λ (x : Exponent). x.x0) h)) (power_back p.x1 r.x1 e.x1 (ap (λ (x : Exponent). x.x1) h)) (power_back p.x2 r.x2 e.x2 (ap (λ (x : Exponent). x.x2) h))

-- a difference is an exponent, and so is a turned one
pub minus_proper : (d e : Exponent) → IsExponent (minus d e)
minus_proper d e = omega arith

-- a turned exponent has a turn below 512
pub turned_proper : (e : Exponent) (k : ℕ) → IsExponent (with_turns e k)
turned_proper e k = omega arith

-- an exponent less one is one
pub minus-zero : (e : Exponent) → IsExponent e → minus e zero_exponent ≡ e
minus-zero e h = exponent_eq (minus e zero_exponent) e (omega arith) (omega (arith, ints)) (omega (arith, ints)) (omega (arith, ints))

-- a turned difference is the difference of the turned one
pub with_turns-minus : (e r : Exponent) (k : ℕ) → minus (with_turns e k) r ≡ with_turns (minus e r) k
with_turns-minus e r k = exponent_eq (minus (with_turns e k) r) (with_turns (minus e r) k) (omega arith) refl refl refl

-- to take away the inverse and then the exponent itself changes nothing
pub minus_undone : (e u : Exponent) → IsExponent e → IsExponent u → minus (minus e (minus zero_exponent u)) u ≡ e
minus_undone e u he hu = exponent_eq (minus (minus e (minus zero_exponent u)) u) e (omega arith) (omega (arith, ints)) (omega (arith, ints)) (omega (arith, ints))

-- two differences in either order
pub minus-swap : (e a b : Exponent) → minus (minus e a) b ≡ minus (minus e b) a
minus-swap e a b = exponent_eq (minus (minus e a) b) (minus (minus e b) a) (omega arith) (omega (arith, ints)) (omega (arith, ints)) (omega (arith, ints))

-- two differences are the difference to the sum
pub minus-minus : (e u v : Exponent) → IsExponent u → IsExponent v → minus (minus e u) v ≡ minus e (plus u v)
minus-minus e u v hu hv = exponent_eq (minus (minus e u) v) (minus e (plus u v)) (omega arith) (omega (arith, ints)) (omega (arith, ints)) (omega (arith, ints))
