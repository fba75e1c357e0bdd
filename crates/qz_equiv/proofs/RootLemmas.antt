-- Powers of √2: what they make of counts, and that they keep what is zero and what isn't.
use Rattle.std.proofs.Common.{◌≡◌, ℕ, zero, suc, ◌+◌, ◌-◌, ◌*◌, ◌^◌, ◌<◌, ◌≤◌, refl, sym, ap, subst, ◌∙◌, arith, add-zero}
use Rattle.std.specs.Prelude.{Bool, ℤ, pos, ◌-ℤ◌, neg_ℤ, ◌↔◌, IsTrue}
use Rattle.std.proofs.Math.Nat.{pow-suc, pow-le-pow_right}
use Rattle.std.proofs.lemmas.Int.{ints}
use Rattle.qz_ring.specs.Exponent.{Exponent as Monomial, IsExponent as IsMonomial, minus, plus, turn_alone, with_turns}
use Rattle.qz_ring.specs.Terms.{Terms, count}
use Rattle.qz_ring.specs.Counts.{CountsNothing, IsTimesMonomial, IsTimesRoot2}
use Rattle.qz_ring.proofs.Order.{same_from_parts}
use Rattle.qz_ring.proofs.Counts.{count-half_turn}
use Rattle.qz_equiv.specs.Phases.{root, roots, IsTimesRoots, IsMultiple, AreAlike}

-- no root changes nothing
pub no_roots : (ts : Terms) → IsTimesRoots 0 ts ts
unfolding roots
no_roots ts e he = refl

-- one root more
pub roots_more : (d n : ℕ) (sum old new : Terms) → n ≡ d + 1 → IsTimesRoots d sum old → IsTimesRoot2 old new → IsTimesRoots n sum new
unfolding roots
roots_more d n sum old new next before more e he =
    let step : count new e ≡ roots (suc d) (count sum) e = more e he ∙ (λ k. before (minus e (turn_alone 64)) (omega arith) k -ℤ before (minus e (turn_alone 192)) (omega arith) k) in
    let number : suc d ≡ n = omega arith in
    step ∙ ap (λ m. roots m (count sum) e) number

-- a weight before the first root
pub room_first : (n weight copied : ℕ) → copied ≡ weight → weight ≤ 2 ^ n → copied ≤ 2 ^ (n + 0)
room_first n weight copied same small = subst (λ m. copied ≤ 2 ^ m) (sym (add-zero n)) (omega (arith, same, small))

-- weights that leave room for some roots leave room for each
pub root_room : (d k weight : ℕ) → d ≤ 100 → k < d → weight ≤ 2 ^ (100 - d + k) → weight ≤ 2 ^ 119
root_room d k weight few less small =
    let low : 100 - d + k ≤ 119 = omega arith in
    let power : 2 ^ (100 - d + k) ≤ 2 ^ 119 = pow-le-pow_right {n = 2} (omega arith) low in
    omega (arith, power)

-- and one more root doubles a weight at most
pub room_more : (n k weight more : ℕ) → weight ≤ 2 ^ (n + k) → more ≤ 2 * weight → more ≤ 2 ^ (n + (k + 1))
room_more n k weight more small doubled =
    let more_by_one : n + (k + 1) ≡ suc (n + k) = omega arith in
    let power : 2 ^ (n + (k + 1)) ≡ 2 ^ (n + k) * 2 = ap (λ m. 2 ^ m) more_by_one ∙ pow-suc 2 (n + k) in
    omega (arith, power)

-- a matrix of some gates leaves room for as many roots as gates are left
pub gates_room : (d gates weight : ℕ) → d + gates ≤ 100 → weight ≤ 2 ^ gates → weight ≤ 2 ^ (100 - d)
gates_room d gates weight few small =
    let left : gates ≤ 100 - d = omega arith in
    let power : 2 ^ gates ≤ 2 ^ (100 - d) = pow-le-pow_right {n = 2} (omega arith) left in
    omega (arith, power)

-- the amounts change their sign half a circle further
abbrev Turns : (Monomial → ℤ) → Type 0
Turns counts = (e : Monomial) → IsMonomial e → counts (with_turns e 256) ≡ neg_ℤ (counts e)

-- the amounts are zero
abbrev IsNothing : (Monomial → ℤ) → Type 0
IsNothing counts = (e : Monomial) → IsMonomial e → counts e ≡ pos 0

-- a turned difference is the difference of the turned one
turned_minus : (e u : Monomial) (k : ℕ) → minus (with_turns e k) u ≡ with_turns (minus e u) k
turned_minus e u k = same_from_parts (minus (with_turns e k) u) (with_turns (minus e u) k) (omega arith) refl refl refl

-- a root keeps the sign's change
root_turns : (counts : Monomial → ℤ) → Turns counts → Turns (root counts)
root_turns counts turns e he =
    let low = ap counts (turned_minus e (turn_alone 64) 256) ∙ turns (minus e (turn_alone 64)) (omega arith) in
    let high = ap counts (turned_minus e (turn_alone 192) 256) ∙ turns (minus e (turn_alone 192)) (omega arith) in
    omega (arith, ints, low, high)

-- and so does a power of it
roots_turn : (d : ℕ) (counts : Monomial → ℤ) → Turns counts → Turns (roots d counts)
unfolding roots
roots_turn zero counts turns = turns
roots_turn (suc d) counts turns = root_turns (roots d counts) (roots_turn d counts turns)

-- nothing times a power of √2 is nothing
roots_nothing : (d : ℕ) (counts : Monomial → ℤ) → IsNothing counts → IsNothing (roots d counts)
unfolding roots
roots_nothing zero counts none e he = none e he
roots_nothing (suc d) counts none e he =
    let low = roots_nothing d counts none (minus e (turn_alone 64)) (omega arith) in
    let high = roots_nothing d counts none (minus e (turn_alone 192)) (omega arith) in
    omega (arith, ints, low, high)

-- a root of nothing is of nothing, since twice it doubles
root_cancels : (counts : Monomial → ℤ) → Turns counts → IsNothing (root counts) → IsNothing counts
root_cancels counts turns none e he =
    let low = minus e (turn_alone 64) in
    let high = minus e (turn_alone 192) in
    let at_low = none low (omega arith) in
    let at_high = none high (omega arith) in
    let once : minus low (turn_alone 192) ≡ with_turns e 256 = same_from_parts (minus low (turn_alone 192)) (with_turns e 256) (omega arith) (omega (arith, ints)) (omega (arith, ints)) (omega (arith, ints)) in
    let again : minus high (turn_alone 64) ≡ with_turns e 256 = same_from_parts (minus high (turn_alone 64)) (with_turns e 256) (omega arith) (omega (arith, ints)) (omega (arith, ints)) (omega (arith, ints)) in
    let past : minus high (turn_alone 192) ≡ with_turns (minus low (turn_alone 64)) 256 = same_from_parts (minus high (turn_alone 192)) (with_turns (minus low (turn_alone 64)) 256) (omega arith) (omega (arith, ints)) (omega (arith, ints)) (omega (arith, ints)) in
    let first = ap counts once ∙ turns e he in
    let second = ap counts again ∙ turns e he in
    let third = ap counts past ∙ turns (minus low (turn_alone 64)) (omega arith) in
    omega (arith, ints, at_low, at_high, first, second, third)

-- and so is a power of it
roots_cancel : (d : ℕ) (counts : Monomial → ℤ) → Turns counts → IsNothing (roots d counts) → IsNothing counts
unfolding roots
roots_cancel zero counts turns none = none
roots_cancel (suc d) counts turns none = roots_cancel d counts turns (root_cancels (roots d counts) (roots_turn d counts turns) none)

-- a sum is zero exactly where its multiple is
pub multiple_alike : (d : ℕ) (by : Monomial) (x y : Terms) → IsMonomial by → IsMultiple d by x y → AreAlike x y
unfolding AreAlike
multiple_alike d by x y proper is = (
  λ none. roots_cancel d (count y) (count-half_turn y) (λ e he.
      let back : minus (plus e by) by ≡ e = same_from_parts (minus (plus e by) by) e (omega arith) (omega (arith, ints)) (omega (arith, ints)) (omega (arith, ints)) in
      sym (ap (roots d (count y)) back) ∙ sym (is (plus e by) (omega arith)) ∙ none (plus e by) (omega arith)),
  λ none e he. is e he ∙ roots_nothing d (count y) none (minus e by) (omega arith),
)

-- where both sums are zero, each is any multiple of the other
pub zero_multiple : (d : ℕ) (by : Monomial) (x y : Terms) → CountsNothing x → CountsNothing y → IsMultiple d by x y
zero_multiple d by x y none_x none_y e he = none_x e he ∙ sym (roots_nothing d (count y) none_y (minus e by) (omega arith))

-- with no roots, a multiple is a product with the monomial
pub multiple_without_roots : (d : ℕ) (by : Monomial) (x y : Terms) (same : Bool) → d ≡ 0 → (IsTrue same ↔ IsTimesMonomial by y x) → (IsTrue same ↔ IsMultiple d by x y)
unfolding roots
multiple_without_roots d by x y same none told = rw none told
