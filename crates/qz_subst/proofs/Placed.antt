-- Gates that are moved to other qubits: what they make of amounts there is what they made of them before, for each value of the
-- qubits that they leave alone. So gates that are the same unitary up to a phase stay so.
use Rattle.std.proofs.Common.{◌≡◌, ℕ, zero, suc, ◌<◌, ◌==◌, ◌&&◌, Bool, true, false, List, [], ◌∷◌, map, refl, sym, ap, ◌∙◌}
use Rattle.std.specs.Prelude.{pos, ◌-ℤ◌, if◌then◌else◌}
use Rattle.std.specs.List.{AllByRecursion}
use Rattle.qz_circ.specs.Exponent.{Exponent, minus, turn_of}
use Rattle.qz_circ.specs.Paths.{has_bit, flipped_state}
use Rattle.qz_circ.proofs.GateSteps.{Amount, Amounts, Kind, mix, flip, flip_where, turn, Gate, act, step}
use Rattle.qz_circ.proofs.PathCounts.{count_of_one}
use Rattle.qz_circ.proofs.Roots.{roots}
use Rattle.qz_paths.proofs.Runs.{run, start}
use Rattle.qz_paths.proofs.Congruence.{Alike}
use Rattle.qz_subst.proofs.Split.{small, rest, AreDifferent, small_below, small_bit, small_flip, rest_flip, test_parts}

-- the gate on the qubits that f says
abbrev pub placed : (ℕ → ℕ) → Gate → Gate
placed f g = record { kind = g.kind; control = f g.control; target = f g.target }

-- both qubits of the gate are below n
pub record IsWithin (n : ℕ) (g : Gate) : Type 0 where
  pub control : g.control < n
  pub target : g.target < n

-- nothing
abbrev nothing : Amount
nothing e = pos 0

-- the amount where a test holds, and else nothing
abbrev amount_if : Bool → Amount → Amount
amount_if b x e = if b then x e else pos 0

-- a gate makes nothing of nothing
act_nothing : (kind : Kind) (b c : Bool) (e : Exponent) → act kind b c nothing nothing e ≡ pos 0
act_nothing mix b true e = refl
act_nothing mix b false e = refl
act_nothing flip b c e = refl
act_nothing flip_where true c e = refl
act_nothing flip_where false c e = refl
act_nothing (turn u) b c e = refl

-- so it may be taken before a test or after it
act_if : (test : Bool) (kind : Kind) (b c : Bool) (x y : Amount) (e : Exponent) → act kind b c (amount_if test x) (amount_if test y) e ≡ amount_if test (act kind b c x y) e
act_if true kind b c x y e = refl
act_if false kind b c x y e = act_nothing kind b c e

-- a power of √2 makes nothing of nothing
roots_nothing : (h : ℕ) (e : Exponent) → roots h nothing e ≡ pos 0
roots_nothing zero e = refl
roots_nothing (suc h) e = λ d. roots_nothing h (minus e (turn_of 64)) d -ℤ roots_nothing h (minus e (turn_of 192)) d

-- so it may be taken before a test or after it
roots_if : (h : ℕ) (test : Bool) (x : Amount) (e : Exponent) → roots h (amount_if test x) e ≡ amount_if test (roots h x) e
roots_if h true x e = refl
roots_if h false x e = roots_nothing h e

module _ (f : ℕ → ℕ) (n : ℕ) (different : AreDifferent f n) where
  -- the amounts of the small states, at the states that are as j at the other qubits
  abbrev lifted : ℕ → Amounts → Amounts
  lifted j v i e = amount_if (rest f n i == rest f n j) (v (small f n i)) e

  -- one state alone
  lifted_start : (j i : ℕ) (e : Exponent) → start j i e ≡ lifted j (start (small f n j)) i e
  lifted_start j i e = ap (λ b. if b then count_of_one e else pos 0) (test_parts f n i j different) ∙ by (rest f n i == rest f n j) (small f n i == small f n j)
    where
      by : (b c : Bool) → (if b && c then count_of_one e else pos 0) ≡ (if b then (if c then count_of_one e else pos 0) else pos 0)
      by true true = refl
      by true false = refl
      by false true = refl
      by false false = refl

  -- one gate
  placed_step : (g : Gate) (j : ℕ) (v : Amounts) (i : ℕ) (e : Exponent) → IsWithin n g → step (placed f g) (lifted j v) i e ≡ lifted j (step g v) i e
  placed_step g j v i e within =
      let here = small f n i in
      (λ d. act g.kind (sym (small_bit f n g.control i within.control) d) (sym (small_bit f n g.target i within.target) d) (lifted j v i) (amount_if (rest_flip f n g.target i different within.target d == rest f n j) (v (small_flip f n g.target i different within.target d))) e) ∙
      act_if (rest f n i == rest f n j) g.kind (has_bit g.control here) (has_bit g.target here) (v here) (v (flipped_state g.target here)) e

  -- gates
  placed_run : (gates : List Gate) (j : ℕ) (v : Amounts) (i : ℕ) (e : Exponent) → AllByRecursion (IsWithin n) gates → run (map (placed f) gates) (lifted j v) i e ≡ lifted j (run gates v) i e
  placed_run [] j v i e within = refl
  placed_run (g ∷ gates) j v i e within =
      ap (λ (w : Amounts). run (map (placed f) gates) w i e) (λ d k x. placed_step g j v k x within.0 d) ∙ placed_run gates j (step g v) i e within.1

  -- gates from one state alone, times a power of √2
  placed_amount : (h : ℕ) (gates : List Gate) (i j : ℕ) (e : Exponent) → AllByRecursion (IsWithin n) gates →
      roots h (run (map (placed f) gates) (start j) i) e ≡ amount_if (rest f n i == rest f n j) (roots h (run gates (start (small f n j)) (small f n i))) e
  placed_amount h gates i j e within =
      ap (λ (w : Amounts). roots h (run (map (placed f) gates) w i) e) (λ d k x. lifted_start j k x d) ∙
      ap (λ (x : Amount). roots h x e) (λ d x. placed_run gates j (start (small f n j)) i x within d) ∙
      roots_if h (rest f n i == rest f n j) (run gates (start (small f n j)) (small f n i)) e

  -- gates that are the same up to a phase stay so
  pub alike_placed : (q : ℕ) (u : Exponent) (k m : ℕ) (a b : List Gate) → AllByRecursion (IsWithin n) a → AllByRecursion (IsWithin n) b → Alike n u k m a b → Alike q u k m (map (placed f) a) (map (placed f) b)
  alike_placed q u k m a b ha hb alike i j hi hj e he =
      placed_amount k a i j e ha ∙
      ap (λ x. if rest f n i == rest f n j then x else pos 0) (alike (small f n i) (small f n j) (small_below f n i) (small_below f n j) e he) ∙
      sym (placed_amount m b i j (minus e u) hb)
