-- Ways through programs have no powers: nothing is counted at exponents with a power.
use Rattle.std.proofs.Common.{◌≡◌, ℕ, zero, suc, ◌<◌, ◌==◌, ◌&&◌, Bool, true, false, List, [], ◌∷◌, map, refl, sym, ap, ◌∙◌, arith, true≢false}
use Rattle.std.specs.Prelude.{ℤ, pos, ◌+ℤ◌, ◌-ℤ◌, if◌then◌else◌}
use Rattle.std.specs.Ordering.{int_eq}
use Rattle.std.specs.Bool.{Decides}
use Rattle.std.proofs.lemmas.Int.{ints}
use Rattle.std.proofs.lemmas.Bool.Decides.{Decides-int_eq, Decides-and}
use Rattle.qz_circ.specs.declared.circuit.Inst.{Inst}
use Rattle.qz_circ.specs.declared.circuit.Inst.TheVariants.{H, X, Cx, Rz}
use Rattle.qz_circ.specs.Exponent.{Exponent, IsExponent, zero_exponent, plus, minus, with_turns, same_exponent, turn_of}
use Rattle.qz_circ.specs.Paths.{has_bit, flipped_state}
use Rattle.qz_circ.proofs.SignedWays.{signed}
use Rattle.qz_circ.proofs.Exponents.{exponent_eq, Decides-same_exponent, plus_there, minus_proper}
use Rattle.qz_circ.proofs.GateSteps.{Amount, Amounts, step}
use Rattle.qz_circ.proofs.RuleGates.{as_program_gate}
use Rattle.qz_circ.proofs.Roots.{roots}
use Rattle.qz_circ.proofs.PathCounts.{count_of_one}
use Rattle.qz_paths.proofs.Runs.{run, start, Along}

-- the exponent has no power
abbrev pub is_plain : Exponent → Bool
is_plain e = (int_eq e.x0 (pos 0) && int_eq e.x1 (pos 0)) && int_eq e.x2 (pos 0)

-- its powers are 0
abbrev pub HasNoPower : Exponent → Type 0
HasNoPower e = ((e.x0 ≡ pos 0) × (e.x1 ≡ pos 0)) × (e.x2 ≡ pos 0)

-- the test decides it
decides_plain : (e : Exponent) → Decides (is_plain e) (HasNoPower e)
decides_plain e =
    Decides-and (int_eq e.x0 (pos 0) && int_eq e.x1 (pos 0)) (int_eq e.x2 (pos 0))
    (Decides-and (int_eq e.x0 (pos 0)) (int_eq e.x1 (pos 0)) (Decides-int_eq e.x0 (pos 0)) (Decides-int_eq e.x1 (pos 0)))
    (Decides-int_eq e.x2 (pos 0))

-- an exponent with no power is its turn
pub plain_turn : (e : Exponent) → IsExponent e → is_plain e ≡ true → turn_of e.turn ≡ e
plain_turn e he plain =
    let none = (decides_plain e).0 plain in
    exponent_eq (turn_of e.turn) e (omega arith) (sym none.0.0) (sym none.0.1) (sym none.1)

-- what is no power of one exponent is a power of no other
not_plain : (e : Exponent) → (HasNoPower e → ⊥) → is_plain e ≡ false
not_plain e apart = by (is_plain e) (decides_plain e).0
  where
    by : (b : Bool) → (b ≡ true → HasNoPower e) → b ≡ false
    by true h = absurd (apart (h refl))
    by false h = refl

-- the powers of one that has some
has_power : (e : Exponent) → is_plain e ≡ false → HasNoPower e → ⊥
has_power e h none = true≢false (sym ((decides_plain e).1 none) ∙ h)

-- a number less nothing
less_none : (z : ℤ) → z -ℤ pos 0 ≡ z
less_none z = omega (arith, ints)

-- some turns less don't change the powers
pub less_turns : (e : Exponent) (k : ℕ) → is_plain (minus e (turn_of k)) ≡ is_plain e
less_turns e k = λ d. (int_eq (less_none e.x0 d) (pos 0) && int_eq (less_none e.x1 d) (pos 0)) && int_eq (less_none e.x2 d) (pos 0)

-- no power less some power is some power
less_power : (e u : Exponent) → is_plain e ≡ true → is_plain u ≡ false → is_plain (minus e u) ≡ false
less_power e u plain power = not_plain (minus e u) (λ none. has_power u power (
  (rest e.x0 u.x0 ((decides_plain e).0 plain).0.0 none.0.0, rest e.x1 u.x1 ((decides_plain e).0 plain).0.1 none.0.1),
  rest e.x2 u.x2 ((decides_plain e).0 plain).1 none.1,
))
  where
    rest : (x y : ℤ) → x ≡ pos 0 → x -ℤ y ≡ pos 0 → y ≡ pos 0
    rest x y h k = omega (arith, ints)

-- and so is no power and some power
and_power : (e u : Exponent) → is_plain e ≡ true → is_plain u ≡ false → is_plain (plus e u) ≡ false
and_power e u plain power = not_plain (plus e u) (λ none. has_power u power (
  (rest e.x0 u.x0 ((decides_plain e).0 plain).0.0 none.0.0, rest e.x1 u.x1 ((decides_plain e).0 plain).0.1 none.0.1),
  rest e.x2 u.x2 ((decides_plain e).0 plain).1 none.1,
))
  where
    rest : (x y : ℤ) → x ≡ pos 0 → x +ℤ y ≡ pos 0 → y ≡ pos 0
    rest x y h k = omega (arith, ints)

-- ---- amounts

-- nothing is counted at exponents with a power
abbrev pub IsPlain : Amount → Type 0
IsPlain x = (e : Exponent) → IsExponent e → is_plain e ≡ false → x e ≡ pos 0

-- at no state
abbrev pub ArePlain : Amounts → Type 0
ArePlain v = (i : ℕ) → IsPlain (v i)

-- an exponent with a power isn't that of 1
not_one : (e : Exponent) → is_plain e ≡ false → same_exponent zero_exponent e ≡ false
not_one e power = by (same_exponent zero_exponent e) (Decides-same_exponent zero_exponent e).0
  where
    by : (b : Bool) → (b ≡ true → zero_exponent ≡ e) → b ≡ false
    by true h = absurd (true≢false (ap is_plain (h refl) ∙ power))
    by false h = refl

-- the number 1
plain_one : IsPlain count_of_one
plain_one e he power = λ d. (if not_one e power d then pos 1 else pos 0) -ℤ (if not_one (with_turns e 256) power d then pos 1 else pos 0)

-- one state alone
pub plain_start : (j : ℕ) → ArePlain (start j)
plain_start j i e he power = by (i == j)
  where
    by : (b : Bool) → (if b then count_of_one e else pos 0) ≡ pos 0
    by true = plain_one e he power
    by false = refl

-- after one gate
plain_step : (g : Inst) (v : Amounts) → ArePlain v → ArePlain (step (as_program_gate g) v)
plain_step (H t) v plain i e he power = by (has_bit t i) (v i e) (v (flipped_state t i) e) (plain i e he power) (plain (flipped_state t i) e he power)
  where
    by : (b : Bool) (x y : ℤ) → x ≡ pos 0 → y ≡ pos 0 → signed b x +ℤ y ≡ pos 0
    by true x y h k = omega (arith, ints)
    by false x y h k = omega (arith, ints)
plain_step (X t) v plain i e he power = plain (flipped_state t i) e he power
plain_step (Cx c t) v plain i e he power = by (has_bit c i)
  where
    by : (b : Bool) → (if b then v (flipped_state t i) else v i) e ≡ pos 0
    by true = plain (flipped_state t i) e he power
    by false = plain i e he power
plain_step (Rz t k) v plain i e he power = by (has_bit t i)
  where
    by : (b : Bool) → v i (if b then minus e (turn_of k) else e) ≡ pos 0
    by true = plain i (minus e (turn_of k)) (minus_proper e (turn_of k)) (less_turns e k ∙ power)
    by false = plain i e he power

-- after gates
pub plain_run : (gates : List Inst) (v : Amounts) → ArePlain v → ArePlain (run (map as_program_gate gates) v)
plain_run [] v plain = plain
plain_run (g ∷ gates) v plain = plain_run gates (step (as_program_gate g) v) (plain_step g v plain)

-- times a power of √2
pub plain_roots : (h : ℕ) (x : Amount) → IsPlain x → IsPlain (roots h x)
plain_roots zero x plain e he power = plain e he power
plain_roots (suc h) x plain e he power =
    let low = plain_roots h x plain (minus e (turn_of 64)) (minus_proper e (turn_of 64)) (less_turns e 64 ∙ power) in
    let high = plain_roots h x plain (minus e (turn_of 192)) (minus_proper e (turn_of 192)) (less_turns e 192 ∙ power) in
    (λ d. low d -ℤ high d)

-- ---- phases

-- where a phase with a power takes one amount to another, both count nothing
nothing_first : (u : Exponent) (x y : Amount) → IsExponent u → is_plain u ≡ false → IsPlain x → IsPlain y → Along (λ e. minus e u) x y → (e : Exponent) → IsExponent e → x e ≡ pos 0
nothing_first u x y hu power plain_x plain_y along e he = by (is_plain e) refl
  where
    by : (b : Bool) → is_plain e ≡ b → x e ≡ pos 0
    by true plain = along e he ∙ plain_y (minus e u) (minus_proper e u) (less_power e u plain power)
    by false other = plain_x e he other

nothing_second : (u : Exponent) (x y : Amount) → IsExponent u → is_plain u ≡ false → IsPlain x → IsPlain y → Along (λ e. minus e u) x y → (e : Exponent) → IsExponent e → y e ≡ pos 0
nothing_second u x y hu power plain_x plain_y along e he = by (is_plain e) refl
  where
    sum_proper : IsExponent (plus e u)
    sum_proper = omega arith

    by : (b : Bool) → is_plain e ≡ b → y e ≡ pos 0
    by true plain = ap y (plus_there e u (plus e u) he hu sum_proper refl) ∙ sym (along (plus e u) sum_proper) ∙ plain_x (plus e u) sum_proper (and_power e u plain power)
    by false other = plain_y e he other

-- the turn that can stand for the phase
abbrev pub turn_for : Exponent → ℕ
turn_for u = if is_plain u then u.turn else 0

-- it is below 512
pub turn_for_below : (u : Exponent) → IsExponent u → turn_for u < 512
turn_for_below u hu = by (is_plain u)
  where
    by : (b : Bool) → (if b then u.turn else 0) < 512
    by true = hu
    by false = omega arith

-- it takes the same amounts to each other
pub phase_is_a_turn : (u : Exponent) (x y : Amount) → IsExponent u → IsPlain x → IsPlain y → Along (λ e. minus e u) x y → Along (λ e. minus e (turn_of (turn_for u))) x y
phase_is_a_turn u x y hu plain_x plain_y along e he = by (is_plain u) refl
  where
    by : (b : Bool) → is_plain u ≡ b → x e ≡ y (minus e (turn_of (if b then u.turn else 0)))
    by true plain = along e he ∙ ap (λ v. y (minus e v)) (sym (plain_turn u hu plain))
    by false power = nothing_first u x y hu power plain_x plain_y along e he ∙ sym (nothing_second u x y hu power plain_x plain_y along (minus e (turn_of 0)) (minus_proper e (turn_of 0)))
