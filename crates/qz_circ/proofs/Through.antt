-- What the ways through one gate more count: only the state itself and the one with the target flipped lead to a state.
use Rattle.std.proofs.Common.{◌≡◌, ◌≢◌, ℕ, ◌^◌, ◌<◌, ◌==◌, ◌&&◌, ◌||◌, not, Bool, true, false, List, refl, sym, ap, ◌∙◌, arith}
use Rattle.std.specs.Prelude.{pos, ◌+ℤ◌, if◌then◌else◌}
use Rattle.std.proofs.lemmas.Int.{ints}
use Rattle.std.proofs.lemmas.Bool.{eq-eqb, ne_eqb}
use Rattle.qz_circ.specs.Exponent.{Exponent, IsExponent, zero_exponent, minus}
use Rattle.qz_circ.specs.Paths.{Path, Ways, has_bit, flipped_state, way_if, products, ways_through, count}
use Rattle.qz_circ.proofs.SignedWays.{signed, sign_of, AreProper}
use Rattle.qz_circ.proofs.Exponents.{minus-zero}
use Rattle.qz_circ.proofs.Totals.{count-times_one, count-times_none}
use Rattle.qz_circ.proofs.Flips.{flipped_twice, flip_below, bit_flipped, bit_kept, flip_apart}
use Rattle.qz_circ.proofs.GateSteps.{Kind, mix, flip, flip_where, turn, Gate, Amount, act, step}
use Rattle.qz_circ.proofs.TwoPlaces.{both_below}

-- ---- the ways through a gate

-- a way leads to state i from state k
abbrev pub leads : Kind → ℕ → ℕ → ℕ → ℕ → Bool
leads mix c t i k = i == k || i == flipped_state t k
leads flip c t i k = i == flipped_state t k
leads flip_where c t i k = i == (if has_bit c k then flipped_state t k else k)
leads (turn u) c t i k = i == k

-- the way is negated, from the target's bits after it and before it
abbrev pub negates : Kind → Bool → Bool → Bool
negates mix x y = x && y
negates flip x y = false
negates flip_where x y = false
negates (turn u) x y = false

-- the exponent of the way, from the target's bit
abbrev pub turns_by : Kind → Bool → Exponent
turns_by mix x = zero_exponent
turns_by flip x = zero_exponent
turns_by flip_where x = zero_exponent
turns_by (turn u) x = if x then u else zero_exponent

-- the ways through a gate, of which there is at most one between two states
unfoldable pub gate_ways : Gate → Ways
gate_ways g i k = way_if (leads g.kind g.control g.target i k) (sign_of (negates g.kind (has_bit g.target i) (has_bit g.target k))) (turns_by g.kind (has_bit g.target i))

-- the control of CX is not its target, and the exponent of a rotation has a turn below 512
abbrev pub IsKind : Kind → ℕ → ℕ → Type 0
IsKind mix c t = Unit {0}
IsKind flip c t = Unit {0}
IsKind flip_where c t = c ≢ t
IsKind (turn u) c t = IsExponent u

-- a gate on q qubits
pub record IsGate (q : ℕ) (g : Gate) : Type 0 where
  pub within : g.target < q
  pub right : IsKind g.kind g.control g.target

-- ---- which ways there are

-- a way leads to a state from itself, where this is the control's bit
abbrev stays : Kind → Bool → Bool
stays mix b = true
stays flip b = false
stays flip_where b = not b
stays (turn u) b = true

-- and from the one with the target flipped
abbrev leaves : Kind → Bool → Bool
leaves mix b = true
leaves flip b = true
leaves flip_where b = b
leaves (turn u) b = false

-- from a state itself
leads_here : (kind : Kind) (c t i : ℕ) → leads kind c t i i ≡ stays kind (has_bit c i)
leads_here mix c t i = ap (λ b. b || i == flipped_state t i) (eq-eqb i i refl)
leads_here flip c t i = ne_eqb i (flipped_state t i) (flip_apart t i)
leads_here flip_where c t i = by (has_bit c i)
  where
    by : (b : Bool) → (i == (if b then flipped_state t i else i)) ≡ not b
    by true = ne_eqb i (flipped_state t i) (flip_apart t i)
    by false = eq-eqb i i refl
leads_here (turn u) c t i = eq-eqb i i refl

-- from the state with the target flipped
leads_across : (kind : Kind) (c t i : ℕ) → IsKind kind c t → leads kind c t i (flipped_state t i) ≡ leaves kind (has_bit c i)
leads_across mix c t i is = ap (λ b. i == flipped_state t i || b) (eq-eqb i (flipped_state t (flipped_state t i)) (sym (flipped_twice t i))) ∙ either (i == flipped_state t i)
  where
    either : (b : Bool) → (b || true) ≡ true
    either true = refl
    either false = refl
leads_across flip c t i is = eq-eqb i (flipped_state t (flipped_state t i)) (sym (flipped_twice t i))
leads_across flip_where c t i is = ap (λ b. i == (if b then flipped_state t (flipped_state t i) else flipped_state t i)) (bit_kept c t i is) ∙ by (has_bit c i)
  where
    by : (b : Bool) → (i == (if b then flipped_state t (flipped_state t i) else flipped_state t i)) ≡ b
    by true = eq-eqb i (flipped_state t (flipped_state t i)) (sym (flipped_twice t i))
    by false = ne_eqb i (flipped_state t i) (flip_apart t i)
leads_across (turn u) c t i is = ne_eqb i (flipped_state t i) (flip_apart t i)

-- a state that leads to another one by a flip is that one flipped
not_flipped : (t i k : ℕ) → k ≢ flipped_state t i → (i == flipped_state t k) ≡ false
not_flipped t i k apart = ne_eqb i (flipped_state t k) (λ h. apart (sym (ap (flipped_state t) h ∙ flipped_twice t k)))

-- from no other state
leads_else : (kind : Kind) (c t i k : ℕ) → k ≢ i → k ≢ flipped_state t i → leads kind c t i k ≡ false
leads_else mix c t i k here there = (λ d. ne_eqb i k (λ h. here (sym h)) d || not_flipped t i k there d)
leads_else flip c t i k here there = not_flipped t i k there
leads_else flip_where c t i k here there = by (has_bit c k)
  where
    by : (b : Bool) → (i == (if b then flipped_state t k else k)) ≡ false
    by true = not_flipped t i k there
    by false = ne_eqb i k (λ h. here (sym h))
leads_else (turn u) c t i k here there = ne_eqb i k (λ h. here (sym h))

-- ---- what they count

-- ways times one way, if there is one
count-times_if : (test b : Bool) (x : Exponent) (ps : List Path) (e : Exponent) → AreProper ps → IsExponent x → IsExponent e → count (products ps (way_if test (sign_of b) x)) e ≡ (if test then signed b (count ps (minus e x)) else pos 0)
count-times_if true b x ps e hp hx he = count-times_one b x ps e hp hx he
count-times_if false b x ps e hp hx he = count-times_none ps e

-- the exponent of a way through a gate is proper
turns_proper : (kind : Kind) (c t : ℕ) (x : Bool) → IsKind kind c t → IsExponent (turns_by kind x)
turns_proper mix c t x is = omega arith
turns_proper flip c t x is = omega arith
turns_proper flip_where c t x is = omega arith
turns_proper (turn u) c t true is = is
turns_proper (turn u) c t false is = omega arith

-- what both states add, with the control's bit b and the target's bit c
both_ways : (kind : Kind) (b c : Bool) (x y : Amount) (e : Exponent) → IsExponent e →
    (if stays kind b then signed (negates kind c c) (x (minus e (turns_by kind c))) else pos 0) +ℤ (if leaves kind b then signed (negates kind c (not c)) (y (minus e (turns_by kind c))) else pos 0) ≡ act kind b c x y e
both_ways mix b true x y e he = (λ d. signed true (x (minus-zero e he d)) +ℤ y (minus-zero e he d))
both_ways mix b false x y e he = (λ d. x (minus-zero e he d) +ℤ y (minus-zero e he d))
both_ways flip b c x y e he = let same = ap y (minus-zero e he) in omega (arith, ints)
both_ways flip_where true c x y e he = let same = ap y (minus-zero e he) in omega (arith, ints)
both_ways flip_where false c x y e he = let same = ap x (minus-zero e he) in omega (arith, ints)
both_ways (turn u) b true x y e he = omega (arith, ints)
both_ways (turn u) b false x y e he = let same = ap x (minus-zero e he) in omega (arith, ints)

-- what the ways from one state count
count_from : (g : Gate) (w : Ways) (i j k : ℕ) (e : Exponent) → IsKind g.kind g.control g.target → AreProper (w k j) → IsExponent e →
    count (products (w k j) (gate_ways g i k)) e ≡ (if leads g.kind g.control g.target i k then signed (negates g.kind (has_bit g.target i) (has_bit g.target k)) (count (w k j) (minus e (turns_by g.kind (has_bit g.target i)))) else pos 0)
unfolding gate_ways
count_from g w i j k e is proper he = count-times_if (leads g.kind g.control g.target i k) (negates g.kind (has_bit g.target i) (has_bit g.target k)) (turns_by g.kind (has_bit g.target i)) (w k j) e proper (turns_proper g.kind g.control g.target (has_bit g.target i) is) he

-- what the ways through one gate more count is what the gate makes of the counts before it
pub count_through : (q : ℕ) (g : Gate) (w : Ways) (i j : ℕ) (e : Exponent) → IsGate q g → ((k : ℕ) → AreProper (w k j)) → i < 2 ^ q → IsExponent e → count (ways_through q w (gate_ways g) i j) e ≡ step g (λ k. count (w k j)) i e
unfolding ways_through
count_through q g w i j e is proper less he =
    let across = flipped_state g.target i in
    let part = λ (k : ℕ) (b : Bool) (c : Bool). if b then signed (negates g.kind (has_bit g.target i) c) (count (w k j) (minus e (turns_by g.kind (has_bit g.target i)))) else pos 0 in
    let others = λ (k : ℕ) (here : k ≢ i) (there : k ≢ across). count_from g w i j k e is.right (proper k) he ∙ ap (λ b. part k b (has_bit g.target k)) (leads_else g.kind g.control g.target i k here there) in
    let first = count_from g w i j i e is.right (proper i) he ∙ ap (λ b. part i b (has_bit g.target i)) (leads_here g.kind g.control g.target i) in
    let second = count_from g w i j across e is.right (proper across) he ∙ (λ d. part across (leads_across g.kind g.control g.target i is.right d) (bit_flipped g.target i d)) in
    both_below (λ k. products (w k j) (gate_ways g i k)) i across (2 ^ q) e (flip_apart g.target i) less (flip_below q g.target i is.within less) others ∙
    (λ d. first d +ℤ second d) ∙
    both_ways g.kind (has_bit g.control i) (has_bit g.target i) (count (w i j)) (count (w across j)) e he
