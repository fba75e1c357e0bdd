-- Connected left sides: a walk reaches all gates just where the gates are connected.
use Rattle.std.proofs.Common.{◌≡◌, ◌≢◌, ℕ, zero, suc, ◌+◌, ◌-◌, ◌<◌, ◌≤◌, ◌==◌, ◌||◌, Bool, true, false, not, if◌then◌else◌, List, [], ◌∷◌, map, length, get_or, take, refl, sym, ap, ◌∙◌, arith, ◌⊎◌, inl, inr}
use Rattle.std.specs.List.{list_all}
use Rattle.std.proofs.lemmas.Bool.{and_parts, eqb-true, cases_eq}
use Rattle.std.proofs.lemmas.List.{length-take, get_or-take}
use Rattle.std.proofs.lemmas.List.Folds.{list_all-append}
use Rattle.qz_circ.specs.declared.circuit.Op.{Op}
use Rattle.qz_circ.specs.Circuit.{Circuit}
use Rattle.qz_circ.specs.Places.{rule_qubits_of, is_listed, rule_shares, sidings, is_apart, are_apart, is_connected}
use Rattle.qz_match.specs.declared.walk.Step.{Step}
use Rattle.qz_match.specs.Neighbours.{AreNeighbours}
use Rattle.qz_match.specs.Walks.{rule_gate_at, acts_on, acts_at, AreBeside, IsStep, reached, Follows, IsWalk, AgreesUpTo}
use Rattle.qz_match.proofs.Tests.{first_or, second_or, any_listed, listed_any, all_pass, each_passes, all-map}

-- ---- common qubits

pub rule_shares_from : (s : ℕ) (f g : Op) → acts_on s f ≡ true → acts_on s g ≡ true → rule_shares f g ≡ true
rule_shares_from s f g h k = any_listed (is_listed (rule_qubits_of g)) (rule_qubits_of f) s h k

pub rule_shares_so : (f g : Op) → rule_shares f g ≡ true → (s : ℕ) × (acts_on s f ≡ true) × (acts_on s g ≡ true)
rule_shares_so f g h = listed_any (is_listed (rule_qubits_of g)) (rule_qubits_of f) h

-- ---- sides

-- gates with a common qubit are on one side
abbrev pub Agree : List Bool → Circuit → Type 0
Agree sides left = (i j : ℕ) → i < j → j < length left → rule_shares (rule_gate_at left i) (rule_gate_at left j) ≡ true → get_or sides i false ≡ get_or sides j false

one_side : (side other sharing : Bool) → ((if side then other else not other) || not sharing) ≡ true → sharing ≡ true → side ≡ other
one_side true true sharing h k = refl
one_side false false sharing h k = refl
one_side true false true h k = cc
one_side true false false h k = cc
one_side false true true h k = cc
one_side false true false h k = cc

one_side_from : (side other sharing : Bool) → (sharing ≡ true → side ≡ other) → ((if side then other else not other) || not sharing) ≡ true
one_side_from true true sharing h = refl
one_side_from false false sharing h = refl
one_side_from true false true h = let no_way : true ≡ false = h refl in cc
one_side_from true false false h = refl
one_side_from false true true h = let no_way : false ≡ true = h refl in cc
one_side_from false true false h = refl

is_apart-agrees : (side : Bool) (g : Op) (sides : List Bool) (gates : Circuit) → length sides ≡ length gates → is_apart side g sides gates ≡ true → (j : ℕ) → j < length gates → rule_shares g (rule_gate_at gates j) ≡ true → side ≡ get_or sides j false
unfolding is_apart
is_apart-agrees side g [] [] size h j l k = absurd (omega arith)
is_apart-agrees side g [] (f ∷ gates) size h j l k = absurd (omega arith)
is_apart-agrees side g (other ∷ sides) [] size h j l k = absurd (omega arith)
is_apart-agrees side g (other ∷ sides) (f ∷ gates) size h zero l k =
    one_side side other (rule_shares g f) (and_parts ((if side then other else not other) || not (rule_shares g f)) (is_apart side g sides gates) h).0 k
is_apart-agrees side g (other ∷ sides) (f ∷ gates) size h (suc j) l k =
    is_apart-agrees side g sides gates (omega arith) (and_parts ((if side then other else not other) || not (rule_shares g f)) (is_apart side g sides gates) h).1 j (omega arith) k

is_apart-from : (side : Bool) (g : Op) (sides : List Bool) (gates : Circuit) → ((j : ℕ) → j < length gates → rule_shares g (rule_gate_at gates j) ≡ true → side ≡ get_or sides j false) → is_apart side g sides gates ≡ true
unfolding is_apart
is_apart-from side g [] [] h = refl
is_apart-from side g [] (f ∷ gates) h = refl
is_apart-from side g (other ∷ sides) [] h = refl
is_apart-from side g (other ∷ sides) (f ∷ gates) h =
    rw (one_side_from side other (rule_shares g f) (h 0 (omega arith))) (is_apart-from side g sides gates (λ j l k. h (suc j) (omega arith) k))

pub are_apart-agree : (sides : List Bool) (left : Circuit) → length sides ≡ length left → are_apart sides left ≡ true → Agree sides left
unfolding are_apart
are_apart-agree [] [] size h = λ i j below l k. absurd (omega arith)
are_apart-agree [] (g ∷ left) size h = absurd (omega arith)
are_apart-agree (side ∷ sides) [] size h = absurd (omega arith)
are_apart-agree (side ∷ sides) (g ∷ left) size h = by (and_parts (is_apart side g sides left) (are_apart sides left) h) (λ few. are_apart-agree sides left (omega arith) few)
  where
    by : (is_apart side g sides left ≡ true) × (are_apart sides left ≡ true) → (are_apart sides left ≡ true → Agree sides left) → (i j : ℕ) → i < j → j < suc (length left) → rule_shares (rule_gate_at (g ∷ left) i) (rule_gate_at (g ∷ left) j) ≡ true → get_or (side ∷ sides) i false ≡ get_or (side ∷ sides) j false
    by parts rest zero zero below l k = absurd (omega arith)
    by parts rest (suc i) zero below l k = absurd (omega arith)
    by parts rest zero (suc j) below l k = is_apart-agrees side g sides left (omega arith) parts.0 j (omega arith) k
    by parts rest (suc i) (suc j) below l k = rest parts.1 i j (omega arith) (omega arith) k

pub are_apart-from : (sides : List Bool) (left : Circuit) → Agree sides left → are_apart sides left ≡ true
unfolding are_apart
are_apart-from [] [] h = refl
are_apart-from [] (g ∷ left) h = refl
are_apart-from (side ∷ sides) [] h = refl
are_apart-from (side ∷ sides) (g ∷ left) h =
    rw (is_apart-from side g sides left (λ j l k. h 0 (suc j) (omega arith) (omega arith) k))
    (are_apart-from sides left (λ i j below l k. h (suc i) (suc j) (omega arith) (omega arith) k))

-- ---- all ways to put gates on two sides

pub each_siding : (n : ℕ) (h : List Bool → Bool) → list_all h (sidings n) ≡ true → (sides : List Bool) → length sides ≡ n → h sides ≡ true
unfolding sidings
each_siding zero h all [] size = (and_parts (h []) true all).0
each_siding zero h all (side ∷ sides) size = absurd (omega arith)
each_siding (suc n) h all [] size = absurd (omega arith)
each_siding (suc n) h all (side ∷ sides) size = by side (and_parts (list_all h (map (λ s. true ∷ s) (sidings n))) (list_all h (map (λ s. false ∷ s) (sidings n))) (sym (list_all-append h (map (λ s. true ∷ s) (sidings n)) (map (λ s. false ∷ s) (sidings n))) ∙ all)) (λ b part. each_siding n (λ s. h (b ∷ s)) part sides (omega arith))
  where
    by : (b : Bool) → (list_all h (map (λ s. true ∷ s) (sidings n)) ≡ true) × (list_all h (map (λ s. false ∷ s) (sidings n)) ≡ true) → ((b : Bool) → list_all (λ s. h (b ∷ s)) (sidings n) ≡ true → h (b ∷ sides) ≡ true) → h (b ∷ sides) ≡ true
    by true parts rest = rest true (sym (all-map h (λ s. true ∷ s) (sidings n)) ∙ parts.0)
    by false parts rest = rest false (sym (all-map h (λ s. false ∷ s) (sidings n)) ∙ parts.1)

pub all_sidings : (n : ℕ) (h : List Bool → Bool) → ((sides : List Bool) → length sides ≡ n → h sides ≡ true) → list_all h (sidings n) ≡ true
unfolding sidings
all_sidings zero h each = rw (each [] refl)
all_sidings (suc n) h each =
    rw (
      list_all-append h (map (λ s. true ∷ s) (sidings n)) (map (λ s. false ∷ s) (sidings n)),
      all-map h (λ s. true ∷ s) (sidings n),
      all-map h (λ s. false ∷ s) (sidings n),
      all_sidings n (λ s. h (true ∷ s)) (λ sides size. each (true ∷ sides) (omega arith)),
    )
    (all_sidings n (λ s. h (false ∷ s)) (λ sides size. each (false ∷ sides) (omega arith)))

-- ---- connected circuits

pub is_connected-from : (left : Circuit) → ((sides : List Bool) → length sides ≡ length left → Agree sides left → (list_all (λ side. side) sides || list_all not sides) ≡ true) → is_connected left ≡ true
unfolding is_connected
is_connected-from left h = all_sidings (length left) (λ sides. not (are_apart sides left) || list_all (λ side. side) sides || list_all not sides) (λ sides size. by sides size (are_apart sides left) refl)
  where
    by : (sides : List Bool) → length sides ≡ length left → (b : Bool) → are_apart sides left ≡ b → (not (are_apart sides left) || list_all (λ side. side) sides || list_all not sides) ≡ true
    by sides size false e = rw e
    by sides size true e = rw e (h sides size (are_apart-agree sides left size e))

pub is_connected-so : (left : Circuit) → is_connected left ≡ true → (sides : List Bool) → length sides ≡ length left → Agree sides left → (list_all (λ side. side) sides || list_all not sides) ≡ true
unfolding is_connected
is_connected-so left connected sides size h =
    let all = each_siding (length left) (λ s. not (are_apart s left) || list_all (λ side. side) s || list_all not s) connected sides size in
    rw (are_apart-from sides left h) at all

-- ---- walks

-- a step joins two gates that share a qubit
step_agrees : (left : Circuit) (step : Step) (sides : List Bool) → IsStep left step → Agree sides left → get_or sides step.from false ≡ get_or sides step.to false
step_agrees left step sides lawful agree = by step.forward step.from step.to lawful.beside
  where
    by : (forward : Bool) (from to : ℕ) → AreBeside forward (acts_at left lawful.qubit) (length left) from to → get_or sides from false ≡ get_or sides to false
    by true from to near = agree from to near.rising near.in_range (rule_shares_from lawful.qubit (rule_gate_at left from) (rule_gate_at left to) near.first near.second)
    by false from to near = sym (agree to from near.rising near.in_range (rule_shares_from lawful.qubit (rule_gate_at left to) (rule_gate_at left from) near.first near.second))

-- all that is reached is on one side
reached_agrees : (left : Circuit) (sides : List Bool) (here : Bool) → Agree sides left → (seen : List ℕ) (steps : List Step) → Follows left seen steps → ((i : ℕ) → is_listed seen i ≡ true → get_or sides i false ≡ here) → (i : ℕ) → is_listed (reached seen steps) i ≡ true → get_or sides i false ≡ here
reached_agrees left sides here agree seen [] follows same i listed = same i listed
reached_agrees left sides here agree seen (step ∷ steps) follows same i listed =
    reached_agrees left sides here agree (step.to ∷ seen) steps follows.3 (λ j h. by j (step.to == j) refl h) i listed
  where
    by : (j : ℕ) (b : Bool) → (step.to == j) ≡ b → (b || is_listed seen j) ≡ true → get_or sides j false ≡ here
    by j true e h = ap (λ k. get_or sides k false) (sym (eqb-true step.to j e)) ∙ sym (step_agrees left step sides follows.0 agree) ∙ same step.from follows.1
    by j false e h = same j h

pub walk_connected : (left : Circuit) (steps : List Step) → IsWalk left steps → is_connected left ≡ true
walk_connected left steps walk = is_connected-from left (λ sides size agree. by sides size agree (get_or sides 0 false) refl)
  where
    first : (i : ℕ) (b : Bool) → (0 == i) ≡ b → (b || false) ≡ true → i ≡ 0
    first i true e h = sym (eqb-true 0 i e)
    first i false e h = cc

    start : (sides : List Bool) (i : ℕ) (b : Bool) → get_or sides 0 false ≡ b → is_listed (0 ∷ []) i ≡ true → get_or sides i false ≡ b
    start sides i b e h = ap (λ k. get_or sides k false) (first i (0 == i) refl h) ∙ e

    by : (sides : List Bool) → length sides ≡ length left → Agree sides left → (b : Bool) → get_or sides 0 false ≡ b → (list_all (λ side. side) sides || list_all not sides) ≡ true
    by sides size agree true e =
        first_or (list_all (λ side. side) sides) (list_all not sides) (all_pass (λ side. side) false sides (λ i l. reached_agrees left sides true agree (0 ∷ []) steps walk.follows (λ j h. start sides j true e h) i (walk.whole i (omega arith))))
    by sides size agree false e =
        second_or (list_all (λ side. side) sides) (list_all not sides) (all_pass not false sides (λ i l. ap not (reached_agrees left sides false agree (0 ∷ []) steps walk.follows (λ j h. start sides j false e h) i (walk.whole i (omega arith)))))

-- ---- no step left

-- the last gate on a qubit from i up to n is seen just where the gate at i is
record Last (left : Circuit) (seen : List Bool) (s i n : ℕ) : Type 0 where
  place : ℕ
  low : i ≤ place
  high : place ≤ n
  acts : acts_at left s place ≡ true
  clear : (x : ℕ) → place < x → x ≤ n → acts_at left s x ≡ false
  same : get_or seen i false ≡ get_or seen place false

last_one : (left : Circuit) (seen : List Bool) (s i : ℕ) → AgreesUpTo left seen (length left) → acts_at left s i ≡ true → (d : ℕ) → i + d < length left → Last left seen s i (i + d)
last_one left seen s i agrees acting zero l = record { place = i; low = omega arith; high = omega arith; acts = acting; clear = λ x p q. absurd (omega arith); same = refl }
last_one left seen s i agrees acting (suc d) l = by (last_one left seen s i agrees acting d (omega arith)) (acts_at left s (suc (i + d))) refl
  where
    next : i + suc d ≡ suc (i + d)
    next = omega arith

    by : Last left seen s i (i + d) → (b : Bool) → acts_at left s (suc (i + d)) ≡ b → Last left seen s i (i + suc d)
    by last true e =
        let high = last.high in
        let low = last.low in
        let near : AreNeighbours (acts_at left s) (length left) last.place (suc (i + d)) = record { rising = omega arith; in_range = omega arith; first = last.acts; second = e; clear = λ x p q. last.clear x p (omega arith) } in
        record { place = suc (i + d); low = omega arith; high = omega arith; acts = e; clear = λ x p q. absurd (omega arith); same = last.same ∙ agrees last.place (suc (i + d)) s (omega arith) near }
    by last false e =
        let high = last.high in
        record { place = last.place; low = last.low; high = omega arith; acts = last.acts; same = last.same; clear = λ x p q. beyond last e x p q (cases_eq x (suc (i + d))) }
      where
        beyond : (last : Last left seen s i (i + d)) → acts_at left s (suc (i + d)) ≡ false → (x : ℕ) → last.place < x → x ≤ i + suc d → (x ≡ suc (i + d)) ⊎ (x ≢ suc (i + d)) → acts_at left s x ≡ false
        beyond last e x p q (inl same) = ap (acts_at left s) same ∙ e
        beyond last e x p q (inr other) = last.clear x p (omega arith)

-- so any two gates with a common qubit are both seen, or neither is
pub sharing_agree : (left : Circuit) (seen : List Bool) → AgreesUpTo left seen (length left) → Agree seen left
sharing_agree left seen agrees i j below l sharing =
    let common = rule_shares_so (rule_gate_at left i) (rule_gate_at left j) sharing in
    let last = last_one left seen common.0 i agrees common.1 (j - suc i) (omega arith) in
    let high = last.high in
    let near : AreNeighbours (acts_at left common.0) (length left) last.place j = record { rising = omega arith; in_range = l; first = last.acts; second = common.2; clear = λ x p q. last.clear x p (omega arith) } in
    last.same ∙ agrees last.place j common.0 l near

pub stuck_apart : (left : Circuit) (seen : List Bool) → length left ≤ length seen → 0 < length left → AgreesUpTo left seen (length left) → get_or seen 0 false ≡ true → list_all (λ b. b) (take (length left) seen) ≡ false → is_connected left ≡ false
stuck_apart left seen size some agrees first open_end = by (is_connected left) refl
  where
    at_side : (i : ℕ) → i < length left → get_or (take (length left) seen) i false ≡ get_or seen i false
    at_side i l = get_or-take (length left) seen i false l

    agree : Agree (take (length left) seen) left
    agree = λ i j below l sharing. at_side i (omega arith) ∙ sharing_agree left seen agrees i j below l sharing ∙ sym (at_side j l)

    by : (b : Bool) → is_connected left ≡ b → b ≡ false
    by false e = refl
    by true e =
        let sized : length (take (length left) seen) ≡ length left = omega (arith, length-take (length left) seen) in
        let one = is_connected-so left e (take (length left) seen) sized agree in
        let second : list_all not (take (length left) seen) ≡ true = rw open_end at one in
        let at_first = each_passes not false (take (length left) seen) second 0 (omega arith) in
        let head : get_or (take (length left) seen) 0 false ≡ true = at_side 0 some ∙ first in
        let wrong : not true ≡ true = rw head at at_first in
        cc
