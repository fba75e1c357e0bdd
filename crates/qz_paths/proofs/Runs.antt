-- What a list of gates makes of the amounts at each state, and that it is what the ways through the gates count.
use Rattle.std.proofs.Common.{◌≡◌, ◌≢◌, ℕ, zero, suc, ◌+◌, ◌^◌, ◌<◌, ◌==◌, Bool, true, false, List, [], ◌∷◌, ◌++◌, map, ◌⊎◌, inl, inr, refl, sym, ap, ◌∙◌, arith}
use Rattle.std.specs.Prelude.{ℤ, pos, fold, ◌+ℤ◌, ◌-ℤ◌, if◌then◌else◌}
use Rattle.std.specs.List.{AllByRecursion}
use Rattle.std.proofs.lemmas.Int.{ints}
use Rattle.std.proofs.lemmas.Bool.{cases_eq, eq-eqb, ne_eqb}
use Rattle.qz_circ.specs.Exponent.{Exponent, IsExponent, minus, turn_of}
use Rattle.qz_circ.specs.Paths.{Ways, has_bit, flipped_state, ways_through, ways_along, identity_ways, count}
use Rattle.qz_circ.proofs.SignedWays.{signed, AreProper}
use Rattle.qz_circ.proofs.Exponents.{minus_proper, minus-swap}
use Rattle.qz_circ.proofs.Flips.{flipped_twice, flip_below, bit_kept}
use Rattle.qz_circ.proofs.GateSteps.{Amount, Amounts, Kind, mix, flip, flip_where, turn, Gate, act, step, interchange}
use Rattle.qz_circ.proofs.Through.{gate_ways, IsGate, IsKind, count_through}
use Rattle.qz_circ.proofs.ProperWays.{proper_through, proper_identity}
use Rattle.qz_circ.proofs.PathCounts.{count_of_one, count-identity_ways}
use Rattle.qz_circ.proofs.Roots.{root, roots}

-- ---- runs

-- what gates from left to right make of the amounts
abbrev pub run : List Gate → Amounts → Amounts
run [] v = v
run (g ∷ gates) v = run gates (step g v)

-- each gate is one on q qubits
abbrev pub AreGates : ℕ → List Gate → Type 0
AreGates q gates = AllByRecursion (IsGate q) gates

-- the amounts of state j alone: 1 there, and nothing elsewhere
abbrev pub start : ℕ → Amounts
start j i e = if i == j then count_of_one e else pos 0

-- some gates and then others
pub run-append : (gates more : List Gate) (v : Amounts) → run (gates ++ more) v ≡ run more (run gates v)
run-append [] more v = refl
run-append (g ∷ gates) more v = run-append gates more (step g v)

-- ---- amounts along a change of exponents

-- the change goes over differences
abbrev pub GoesOver : (Exponent → Exponent) → Type 0
GoesOver s = (e u : Exponent) → s (minus e u) ≡ minus (s e) u

-- each exponent has in x the amount that the changed exponent has in y
abbrev pub Along : (Exponent → Exponent) → Amount → Amount → Type 0
Along s x y = (e : Exponent) → IsExponent e → x e ≡ y (s e)

-- and so at each state of q qubits
abbrev pub AlongBelow : ℕ → (Exponent → Exponent) → Amounts → Amounts → Type 0
AlongBelow q s v w = (i : ℕ) → i < 2 ^ q → Along s (v i) (w i)

-- no change goes over differences
pub same_goes_over : GoesOver (λ e. e)
same_goes_over e u = refl

-- and so does a difference
pub minus_goes_over : (u : Exponent) → GoesOver (λ e. minus e u)
minus_goes_over u e v = minus-swap e v u

module _ (s : Exponent → Exponent) (over : GoesOver s) where
  -- what a gate makes of amounts
  act_along : (kind : Kind) (b c : Bool) (x y z w : Amount) → Along s x z → Along s y w → Along s (act kind b c x y) (act kind b c z w)
  act_along mix b c x y z w first second e he = λ d. signed c (first e he d) +ℤ second e he d
  act_along flip b c x y z w first second e he = second e he
  act_along flip_where true c x y z w first second e he = second e he
  act_along flip_where false c x y z w first second e he = first e he
  act_along (turn u) b true x y z w first second e he = first (minus e u) (minus_proper e u) ∙ ap z (over e u)
  act_along (turn u) b false x y z w first second e he = first e he

  -- one gate
  pub step_along : (q : ℕ) (g : Gate) (v w : Amounts) → g.target < q → AlongBelow q s v w → AlongBelow q s (step g v) (step g w)
  step_along q g v w within along i less =
      let across = flipped_state g.target i in
      act_along g.kind (has_bit g.control i) (has_bit g.target i) (v i) (v across) (w i) (w across) (along i less) (along across (flip_below q g.target i within less))

  -- gates
  pub run_along : (q : ℕ) (gates : List Gate) (v w : Amounts) → AreGates q gates → AlongBelow q s v w → AlongBelow q s (run gates v) (run gates w)
  run_along q [] v w are along = along
  run_along q (g ∷ gates) v w are along = run_along q gates (step g v) (step g w) are.1 (step_along q g v w are.0.within along)

  -- times √2
  root_along : (x y : Amount) → Along s x y → Along s (root x) (root y)
  root_along x y along e he =
      let low = along (minus e (turn_of 64)) (minus_proper e (turn_of 64)) ∙ ap y (over e (turn_of 64)) in
      let high = along (minus e (turn_of 192)) (minus_proper e (turn_of 192)) ∙ ap y (over e (turn_of 192)) in
      λ d. low d -ℤ high d

  -- times a power of √2
  pub roots_along : (h : ℕ) (x y : Amount) → Along s x y → Along s (roots h x) (roots h y)
  roots_along zero x y along = along
  roots_along (suc h) x y along = root_along (roots h x) (roots h y) (roots_along h x y along)

-- ---- powers of √2

-- the one power after the other is the power of both
pub roots-add : (h k : ℕ) (x : Amount) → roots (h + k) x ≡ roots h (roots k x)
roots-add zero k x = let same : zero + k ≡ k = omega arith in ap (λ n. roots n x) same
roots-add (suc h) k x =
    let more : suc h + k ≡ suc (h + k) = omega arith in
    ap (λ n. roots n x) more ∙ ap root (roots-add h k x)

-- before a gate or after it
act_root : (kind : Kind) (b c : Bool) (x y : Amount) (e : Exponent) → act kind b c (root x) (root y) e ≡ root (act kind b c x y) e
act_root mix b true x y e = omega (arith, ints)
act_root mix b false x y e = omega (arith, ints)
act_root flip b c x y e = refl
act_root flip_where true c x y e = refl
act_root flip_where false c x y e = refl
act_root (turn u) b true x y e = λ d. x (minus-swap e u (turn_of 64) d) -ℤ x (minus-swap e u (turn_of 192) d)
act_root (turn u) b false x y e = refl

-- a power of it, before a gate or after it
act_roots : (h : ℕ) (kind : Kind) (b c : Bool) (x y : Amount) (e : Exponent) → act kind b c (roots h x) (roots h y) e ≡ roots h (act kind b c x y) e
act_roots zero kind b c x y e = refl
act_roots (suc h) kind b c x y e = act_root kind b c (roots h x) (roots h y) e ∙ ap (λ (z : Amount). root z e) (λ d f. act_roots h kind b c x y f d)

-- before one gate or after it
pub step_roots : (h : ℕ) (g : Gate) (v : Amounts) (i : ℕ) (e : Exponent) → step g (λ k. roots h (v k)) i e ≡ roots h (step g v i) e
step_roots h g v i e = act_roots h g.kind (has_bit g.control i) (has_bit g.target i) (v i) (v (flipped_state g.target i)) e

-- before gates or after them
pub run_roots : (h : ℕ) (gates : List Gate) (v : Amounts) (i : ℕ) (e : Exponent) → run gates (λ k. roots h (v k)) i e ≡ roots h (run gates v i) e
run_roots h [] v i e = refl
run_roots h (g ∷ gates) v i e = ap (λ (w : Amounts). run gates w i e) (λ d k f. step_roots h g v k f d) ∙ run_roots h gates (step g v) i e

-- ---- a gate in front

-- amounts for each two states: a gate on the first state, before gates on the second or after them
run_columns : (gates : List Gate) (g : Gate) (m : ℕ → Amounts) (i j : ℕ) (e : Exponent) → run gates (λ k. step g (m k) j) i e ≡ step g (λ l. run gates (λ k. m k l) i) j e
run_columns [] g m i j e = refl
run_columns (f ∷ gates) g m i j e =
    ap (λ (w : Amounts). run gates w i e) (λ d k x. swapped k x d) ∙
    run_columns gates g (λ k l. step f (λ r. m r l) k) i j e
  where
    swapped : (k : ℕ) (x : Exponent) → step f (λ r. step g (m r) j) k x ≡ step g (λ l. step f (λ r. m r l) k) j x
    swapped k x =
        let across = flipped_state f.target k in
        let over = flipped_state g.target j in
        interchange f.kind g.kind (has_bit f.control k) (has_bit f.target k) (has_bit g.control j) (has_bit g.target j) (m k j) (m k over) (m across j) (m across over) x

-- the amount of the other state at this one is that of this state at the other
start_across : (t i j : ℕ) (e : Exponent) → start j (flipped_state t i) e ≡ start (flipped_state t j) i e
start_across t i j e = by (cases_eq i (flipped_state t j))
  where
    by : (i ≡ flipped_state t j) ⊎ (i ≡ flipped_state t j → ⊥) → start j (flipped_state t i) e ≡ start (flipped_state t j) i e
    by (inl same) = rw (eq-eqb i (flipped_state t j) same, eq-eqb (flipped_state t i) j (ap (flipped_state t) same ∙ flipped_twice t j)) refl
    by (inr apart) = rw (ne_eqb i (flipped_state t j) apart, ne_eqb (flipped_state t i) j (λ h. apart (sym (flipped_twice t i) ∙ ap (flipped_state t) h))) refl

-- nothing at another state
start_none : (j i : ℕ) → (i ≡ j → ⊥) → (e : Exponent) → start j i e ≡ pos 0
start_none j i apart e = ap (λ b. if b then count_of_one e else pos 0) (ne_eqb i j apart)

-- what a bit makes of two states' amount, which is nothing where they differ
by_bit : (t i j : ℕ) (f : Bool → ℤ) → ((i ≡ j → ⊥) → (b : Bool) → f b ≡ pos 0) → f (has_bit t i) ≡ f (has_bit t j)
by_bit t i j f none = by (cases_eq i j)
  where
    by : (i ≡ j) ⊎ (i ≡ j → ⊥) → f (has_bit t i) ≡ f (has_bit t j)
    by (inl same) = ap (λ k. f (has_bit t k)) same
    by (inr apart) = none apart (has_bit t i) ∙ sym (none apart (has_bit t j))

-- a gate on the amounts of one state alone is the gate on the states that are alone
step_start : (q : ℕ) (g : Gate) (i j : ℕ) (e : Exponent) → IsGate q g → step g (start j) i e ≡ step g (λ l. start l i) j e
step_start q g i j e is = of g.kind is.right
  where
    across : (x : Exponent) → start j (flipped_state g.target i) x ≡ start (flipped_state g.target j) i x
    across x = start_across g.target i j x

    signed_none : (b : Bool) → signed b (pos 0) ≡ pos 0
    signed_none true = refl
    signed_none false = refl

    where_bit : (i ≡ j) ⊎ (i ≡ j → ⊥) → (i ≡ flipped_state g.target j) ⊎ (i ≡ flipped_state g.target j → ⊥) → g.control ≢ g.target →
        (if has_bit g.control i then start (flipped_state g.target j) i else start j i) e ≡ (if has_bit g.control j then start (flipped_state g.target j) i else start j i) e
    where_bit (inl same) either apart = ap (λ (b : Bool). (if b then start (flipped_state g.target j) i else start j i) e) (ap (has_bit g.control) same)
    where_bit (inr not_same) (inl flipped) apart = ap (λ (b : Bool). (if b then start (flipped_state g.target j) i else start j i) e) (ap (has_bit g.control) flipped ∙ bit_kept g.control g.target j apart)
    where_bit (inr not_same) (inr not_flipped) apart = none (has_bit g.control i) ∙ sym (none (has_bit g.control j))
      where
        none : (b : Bool) → (if b then start (flipped_state g.target j) i else start j i) e ≡ pos 0
        none true = start_none (flipped_state g.target j) i not_flipped e
        none false = start_none j i not_same e

    of : (kind : Kind) → IsKind kind g.control g.target →
        act kind (has_bit g.control i) (has_bit g.target i) (start j i) (start j (flipped_state g.target i)) e ≡
        act kind (has_bit g.control j) (has_bit g.target j) (start j i) (start (flipped_state g.target j) i) e
    of mix is = λ d. by_bit g.target i j (λ b. signed b (start j i e)) (λ apart b. ap (signed b) (start_none j i apart e) ∙ signed_none b) d +ℤ across e d
    of flip is = across e
    of flip_where is =
        ap (λ (y : Amount). (if has_bit g.control i then y else start j i) e) (λ d x. across x d) ∙
        where_bit (cases_eq i j) (cases_eq i (flipped_state g.target j)) is
    of (turn u) is = by_bit g.target i j (λ b. start j i (if b then minus e u else e)) (λ apart b. start_none j i apart (if b then minus e u else e))

-- a gate before the others acts on the state that they start from
pub run_first : (q : ℕ) (gates : List Gate) (g : Gate) (i j : ℕ) (e : Exponent) → IsGate q g → run (g ∷ gates) (start j) i e ≡ step g (λ l. run gates (start l) i) j e
run_first q gates g i j e is =
    ap (λ (v : Amounts). run gates v i e) (λ d k x. step_start q g k j x is d) ∙ run_columns gates g (λ k l. start l k) i j e

-- ---- what ways through gates count

module _ {G : Type 0} (through : G → Ways) (as_gate : G → Gate) (same : (g : G) → through g ≡ gate_ways (as_gate g)) (q : ℕ) where
  -- after ways that count these amounts
  counts_after : (gates : List G) (w : Ways) (j : ℕ) (v : Amounts) → AreGates q (map as_gate gates) → ((i k : ℕ) → AreProper (w i k)) → AlongBelow q (λ e. e) (λ k. count (w k j)) v →
      AlongBelow q (λ e. e) (λ k. count (fold (λ ways g. ways_through q ways (through g)) w gates k j)) (run (map as_gate gates) v)
  counts_after [] w j v are proper along = along
  counts_after (g ∷ gates) w j v are proper along =
      counts_after gates (ways_through q w (through g)) j (step (as_gate g) v) are.1 (proper_through q w (through g))
      (λ i less e he.
      ap (λ (x : Ways). count (ways_through q w x i j) e) (same g) ∙
      count_through q (as_gate g) w i j e are.0 (λ k. proper k j) less he ∙
      step_along (λ x. x) same_goes_over q (as_gate g) (λ k. count (w k j)) v are.0.within along i less e he)

  -- from each state alone
  pub counts_along : (gates : List G) (i j : ℕ) (e : Exponent) → AreGates q (map as_gate gates) → i < 2 ^ q → IsExponent e → count (ways_along through q gates i j) e ≡ run (map as_gate gates) (start j) i e
  unfolding ways_along
  counts_along gates i j e are less he = counts_after gates identity_ways j (start j) are proper_identity (λ k below x hx. count-identity_ways k j x) i less e he
