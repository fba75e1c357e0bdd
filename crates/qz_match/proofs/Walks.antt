-- Walks step by step.
use Rattle.std.proofs.Common.{◌≡◌, ◌≢◌, ℕ, zero, suc, ◌+◌, ◌<◌, ◌≤◌, ◌==◌, ◌||◌, Bool, true, false, not, if◌then◌else◌, List, [], ◌∷◌, ◌++◌, length, get_or, take, refl, sym, ap, ◌∙◌, subst, arith, ◌⊎◌, inl, inr, Some, count_by, lit≤, lit<}
use Rattle.std.specs.Prelude.{slice_set}
use Rattle.std.specs.List.{list_all, slice_get}
use Rattle.std.proofs.lemmas.Bool.{eqb-true, eq-eqb, ne_eqb, cases_eq}
use Rattle.std.proofs.lemmas.List.{get_or-set_same, get_or-set_other, length-set, length-take, get_or-take}
use Rattle.std.proofs.lemmas.List.Sums.{sum_by-set}
use Rattle.std.proofs.Math.Seq.{take-suc-set}
use Rattle.qz_circ.specs.declared.circuit.Op.{Op}
use Rattle.qz_circ.specs.declared.circuit.Op.TheVariants.{H, X, Cx, Rz}
use Rattle.qz_circ.specs.Circuit.{Circuit}
use Rattle.qz_circ.specs.Places.{rule_qubits_of, is_listed}
use Rattle.qz_match.specs.declared.walk.Step.{Step}
use Rattle.qz_match.specs.Neighbours.{AreNeighbours}
use Rattle.qz_match.specs.Walks.{rule_gate_at, acts_on, acts_at, AreBeside, IsStep, reached, Follows, IsWalk, AgreesUpTo, AgreesAt, LeadsOn}
use Rattle.qz_match.proofs.Tests.{each_passes, second_or}

-- ---- steps

-- a step stays within the left side, and a gate has at most two operands
pub record IsWithin (left : Circuit) (step : Step) : Type 0 where
  pub from : step.from < length left
  pub to : step.to < length left
  pub operand : step.operand < 2

-- an operand that stands alone
only : (s t : ℕ) → ((t == s) || false) ≡ true → t ≡ s
only s t h = by (t == s) refl h
  where
    by : (b : Bool) → (t == s) ≡ b → (b || false) ≡ true → t ≡ s
    by true e k = eqb-true t s e
    by false e k = cc

few_operands : (f : Op) (o s : ℕ) → slice_get (rule_qubits_of f) o ≡ Some s → o < 2
few_operands (H t) zero s h = omega arith
few_operands (H t) (suc o) s h = cc
few_operands (X t) zero s h = omega arith
few_operands (X t) (suc o) s h = cc
few_operands (Rz t e) zero s h = omega arith
few_operands (Rz t e) (suc o) s h = cc
few_operands (Cx c t) zero s h = omega arith
few_operands (Cx c t) (suc zero) s h = omega arith
few_operands (Cx c t) (suc (suc o)) s h = cc

pub step_within : (left : Circuit) (step : Step) → IsStep left step → IsWithin left step
step_within left step h = by step.forward step.from step.to h.beside refl refl
  where
    operand : step.operand < 2
    operand = few_operands (rule_gate_at left step.from) step.operand h.qubit h.operand

    by : (forward : Bool) (from to : ℕ) → AreBeside forward (acts_at left h.qubit) (length left) from to → (from ≡ step.from) → (to ≡ step.to) → IsWithin left step
    by true from to near e f = let up = near.rising in let in_range = near.in_range in record { from = omega arith; to = omega arith; operand = operand }
    by false from to near e f = let up = near.rising in let in_range = near.in_range in record { from = omega arith; to = omega arith; operand = operand }

-- a gate on a qubit has it as its first or its second operand
operand_of : (s : ℕ) (f : Op) → acts_on s f ≡ true → (slice_get (rule_qubits_of f) 0 ≡ Some s) ⊎ (slice_get (rule_qubits_of f) 1 ≡ Some s)
operand_of s (H t) h = inl (ap Some (only s t h))
operand_of s (X t) h = inl (ap Some (only s t h))
operand_of s (Rz t e) h = inl (ap Some (only s t h))
operand_of s (Cx c t) h = by (c == s) refl h
  where
    by : (b : Bool) → (c == s) ≡ b → (b || ((t == s) || false)) ≡ true → (slice_get (c ∷ t ∷ []) 0 ≡ Some s) ⊎ (slice_get (c ∷ t ∷ []) 1 ≡ Some s)
    by true e k = inl (ap Some (eqb-true c s e))
    by false e k = inr (ap Some (only s t k))

pub agrees_more : (left : Circuit) (seen : List Bool) (j : ℕ) → AgreesUpTo left seen j → AgreesAt left seen j 0 × AgreesAt left seen j 1 → AgreesUpTo left seen (j + 1)
agrees_more left seen j up here = λ i k s below near. by i k s below near (cases_eq k j)
  where
    at : (i k s : ℕ) → k ≡ j → AreNeighbours (acts_at left s) (length left) i j → (slice_get (rule_qubits_of (rule_gate_at left j)) 0 ≡ Some s) ⊎ (slice_get (rule_qubits_of (rule_gate_at left j)) 1 ≡ Some s) → get_or seen i false ≡ get_or seen j false
    at i k s same near (inl o) = here.0 i s o near
    at i k s same near (inr o) = here.1 i s o near

    by : (i k s : ℕ) → k < j + 1 → AreNeighbours (acts_at left s) (length left) i k → (k ≡ j) ⊎ (k ≢ j) → get_or seen i false ≡ get_or seen k false
    by i k s below near (inl same) =
        let near_here : AreNeighbours (acts_at left s) (length left) i j = subst (λ x. AreNeighbours (acts_at left s) (length left) i x) same near in
        at i k s same near_here (operand_of s (rule_gate_at left j) near_here.second) ∙ ap (λ x. get_or seen x false) (sym same)
    by i k s below near (inr other) = up i k s (omega arith) near

-- ---- one step more

pub reached-push : (seen : List ℕ) (steps : List Step) (step : Step) → reached seen (steps ++ step ∷ []) ≡ step.to ∷ reached seen steps
reached-push seen [] step = refl
reached-push seen (first ∷ steps) step = reached-push (first.to ∷ seen) steps step

pub follows-push : (left : Circuit) (seen : List ℕ) (steps : List Step) (step : Step) → Follows left seen steps → IsStep left step → is_listed (reached seen steps) step.from ≡ true → 0 < step.to → Follows left seen (steps ++ step ∷ [])
follows-push left seen [] step h lawful from to = (lawful, from, to, tt)
follows-push left seen (first ∷ steps) step h lawful from to = (h.0, h.1, h.2, follows-push left (first.to ∷ seen) steps step h.3 lawful from to)

-- the step at i is lawful, and starts at a gate that the earlier ones reach
pub follows_at : (left : Circuit) (d : Step) (seen : List ℕ) (steps : List Step) → Follows left seen steps → (i : ℕ) → i < length steps → IsStep left (get_or steps i d) × (is_listed (reached seen (take i steps)) (get_or steps i d).from ≡ true) × (0 < (get_or steps i d).to)
follows_at left d seen [] h i l = absurd (omega arith)
follows_at left d seen (step ∷ steps) h zero l = (h.0, h.1, h.2)
follows_at left d seen (step ∷ steps) h (suc i) l = follows_at left d (step.to ∷ seen) steps h.3 i (omega arith)

-- what was seen stays reached
pub reached_kept : (steps : List Step) (seen : List ℕ) (i : ℕ) → is_listed seen i ≡ true → is_listed (reached seen steps) i ≡ true
reached_kept [] seen i h = h
reached_kept (step ∷ steps) seen i h = reached_kept steps (step.to ∷ seen) i (second_or (step.to == i) (is_listed seen i) h)

-- how far a walk is made: which gates its steps reach, and how many steps there is room for
pub record IsUnderWay (left : Circuit) (seen : List Bool) (found : List Step) (count : ℕ) : Type 0 where
  pub flags : (i : ℕ) → i < 6 → get_or seen i false ≡ is_listed (reached (0 ∷ []) (take count found)) i
  pub follows : Follows left (0 ∷ []) (take count found)
  pub room : count + count_by not seen ≤ 5
  pub seen_size : length seen ≡ 6
  pub found_size : length found ≡ 5

pub under_way-first : (left : Circuit) (found : List Step) → length found ≡ 5 → IsUnderWay left (true ∷ false ∷ false ∷ false ∷ false ∷ false ∷ []) found 0
under_way-first left found size = record { flags = λ i l. flags i l; follows = tt; room = lit≤ tt; seen_size = refl; found_size = size }
  where
    flags : (i : ℕ) → i < 6 → get_or (true ∷ false ∷ false ∷ false ∷ false ∷ false ∷ []) i false ≡ is_listed (0 ∷ []) i
    flags zero l = refl
    flags (suc zero) l = refl
    flags (suc (suc zero)) l = refl
    flags (suc (suc (suc zero))) l = refl
    flags (suc (suc (suc (suc zero)))) l = refl
    flags (suc (suc (suc (suc (suc zero))))) l = refl
    flags (suc (suc (suc (suc (suc (suc i)))))) l = absurd (omega arith)

module _ (left : Circuit) (short : length left ≤ 6) (seen : List Bool) (found : List Step) (count : ℕ) (h : IsUnderWay left seen found count) (step : Step) (on : LeadsOn left seen step) where
  pub fewer_unseen : suc (count_by not (slice_set seen step.to true)) ≡ count_by not seen
  fewer_unseen =
      let within = step_within left step on.lawful in
      let to = within.to in
      let size = h.seen_size in
      let moved = sum_by-set (λ b. if not b then 1 else 0) seen step.to true false (omega arith) in
      let one : ◌≡◌ {A = ℕ} (if not (get_or seen step.to false) then 1 else 0) 1 = rw on.to_unseen in
      omega (arith, moved, one)

  pub room_left : count < 5
  room_left = let room = h.room in omega (arith, fewer_unseen)

  pub under_way-more : IsUnderWay left (slice_set seen step.to true) (slice_set found count step) (count + 1)
  under_way-more =
      let within = step_within left step on.lawful in
      let to = within.to in
      let from = within.from in
      let room = h.room in
      let size = h.found_size in
      let longer : count < length found = omega (arith, room_left) in
      let sizes = h.seen_size in
      let next : count + 1 ≡ suc count = omega arith in
      let steps : take (count + 1) (slice_set found count step) ≡ take count found ++ step ∷ [] = ap (λ n. take n (slice_set found count step)) next ∙ take-suc-set found count step longer in
      let from_listed : is_listed (reached (0 ∷ []) (take count found)) step.from ≡ true = sym (h.flags step.from (omega arith)) ∙ on.from_seen in
      record {
        flags = λ i l. flags i l to sizes steps (cases_eq i step.to);
        follows = subst (λ ss. Follows left (0 ∷ []) ss) (sym steps) (follows-push left (0 ∷ []) (take count found) step h.follows on.lawful from_listed (later step.to refl));
        room = omega (arith, fewer_unseen);
        seen_size = length-set seen step.to true ∙ h.seen_size;
        found_size = length-set found count step ∙ h.found_size;
      }
    where
      first : get_or seen 0 false ≡ true
      first = h.flags 0 (lit< tt) ∙ reached_kept (take count found) (0 ∷ []) 0 refl

      later : (t : ℕ) → t ≡ step.to → 0 < t
      later zero e = absurd (let none : get_or seen 0 false ≡ false = ap (λ i. get_or seen i false) e ∙ on.to_unseen in let both = first in let no_way : true ≡ false = sym both ∙ none in cc)
      later (suc t) e = omega arith

      listed : (i : ℕ) (b : Bool) → take (count + 1) (slice_set found count step) ≡ take count found ++ step ∷ [] → (step.to == i) ≡ b → is_listed (reached (0 ∷ []) (take (count + 1) (slice_set found count step))) i ≡ (b || is_listed (reached (0 ∷ []) (take count found)) i)
      listed i b steps e = ap (λ ss. is_listed (reached (0 ∷ []) ss) i) steps ∙ ap (λ seen. is_listed seen i) (reached-push (0 ∷ []) (take count found) step) ∙ ap (λ t. t || is_listed (reached (0 ∷ []) (take count found)) i) e

      flags : (i : ℕ) → i < 6 → step.to < length left → length seen ≡ 6 → take (count + 1) (slice_set found count step) ≡ take count found ++ step ∷ [] → (i ≡ step.to) ⊎ (i ≢ step.to) → get_or (slice_set seen step.to true) i false ≡ is_listed (reached (0 ∷ []) (take (count + 1) (slice_set found count step))) i
      flags i l to sizes steps (inl same) =
          let here : get_or (slice_set seen step.to true) i false ≡ true = ap (λ k. get_or (slice_set seen step.to true) k false) same ∙ get_or-set_same seen step.to true false (omega arith) in
          here ∙ sym (listed i true steps (eq-eqb step.to i (sym same)))
      flags i l to sizes steps (inr other) =
          get_or-set_other seen step.to i true false other ∙ h.flags i l ∙ sym (listed i false steps (ne_eqb step.to i (λ e. other (sym e))))

pub walk_made : (left : Circuit) (seen : List Bool) (found : List Step) (count : ℕ) → length left ≤ 6 → IsUnderWay left seen found count → list_all (λ b. b) (take (length left) seen) ≡ true → IsWalk left (take count found)
walk_made left seen found count short h all = record {
  follows = h.follows;
  whole = λ i l.
      let sizes = h.seen_size in
      sym (h.flags i (omega arith)) ∙ sym (get_or-take (length left) seen i false l) ∙ each_passes (λ b. b) false (take (length left) seen) all i (omega (arith, length-take (length left) seen));
}
