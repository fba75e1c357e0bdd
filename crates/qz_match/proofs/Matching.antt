-- What a match says: where the gates of the left side stand, and that neighbours there are neighbours in the program.
use Rattle.std.proofs.Common.{◌≡◌, ◌≢◌, ℕ, zero, suc, ◌+◌, ◌<◌, ◌≤◌, ◌==◌, ◌&&◌, ◌||◌, Bool, true, false, if◌then◌else◌, List, [], ◌∷◌, map, length, get_or, Some, None, refl, sym, ap, ◌∙◌, subst, arith, ◌⊎◌, inl, inr, leb, ltb, le-leb, lt-ltb}
use Rattle.std.specs.List.{AllByRecursion, slice_get}
use Rattle.std.specs.Option.{option_map}
use Rattle.std.proofs.lemmas.Bool.{and_parts, eqb-true, eq-eqb, ne_eqb, cases_eq}
use Rattle.qz_circ.specs.declared.binding.Binding.{Binding}
use Rattle.qz_circ.specs.declared.circuit.Op.{Op}
use Rattle.qz_circ.specs.declared.circuit.Op.TheVariants.{H as RuleH, X as RuleX, Cx as RuleCx, Rz as RuleRz}
use Rattle.qz_circ.specs.declared.circuit.Inst.{Inst}
use Rattle.qz_circ.specs.declared.circuit.Inst.TheVariants.{H, X, Cx, Rz}
use Rattle.qz_circ.specs.Circuit.{Circuit, IsOn}
use Rattle.qz_circ.specs.ProgramCircuits.{ProgramCircuit, IsProgramGate}
use Rattle.qz_circ.specs.Gathering.{qubits_of, is_on, marked, selected, gathers}
use Rattle.qz_circ.specs.Instances.{slot}
use Rattle.qz_circ.specs.Places.{PlaceParts, rule_qubits_of, bind_gates, nothing_bound, match_at}
use Rattle.qz_match.specs.Neighbours.{AreNeighbours, gate_at, on_at}
use Rattle.qz_match.specs.Walks.{rule_gate_at, acts_on, acts_at}
use Rattle.qz_match.specs.Starts.{rises, tested, Matches}
use Rattle.qz_match.proofs.Bindings.{IsGateOf, AreGatesOf, IsSound, bind_gates-is, nothing_bound-sound}
use Rattle.qz_match.proofs.Gaps.{StandFrom, RiseFrom, marked_first, gaps}
use Rattle.qz_match.proofs.GatherSteps.{rises-from}

-- ---- the selected gates

pub stand_from : (c : ProgramCircuit) (at : ℕ → Inst) (i : ℕ) → ((x : ℕ) → x < length c → at (i + x) ≡ gate_at c x) → StandFrom at i c
stand_from [] at i h = tt
stand_from (g ∷ c) at i h = (
  let here : i + 0 ≡ i = omega arith in sym (ap at here) ∙ h 0 (omega arith),
  stand_from c at (suc i) (λ x l. let next : suc i + x ≡ i + suc x = omega arith in ap at next ∙ h (suc x) (omega arith)),
)

pub program_stands : (c : ProgramCircuit) → StandFrom (gate_at c) 0 c
program_stands c = stand_from c (gate_at c) 0 (λ x l. let same : 0 + x ≡ x = omega arith in ap (gate_at c) same)

pub selected_marked : (at : ℕ → Inst) (m : ℕ) (c : ProgramCircuit) (i : ℕ) (ps : List ℕ) → StandFrom at i c → m ≡ i + length c → RiseFrom i m ps → selected (marked i ps c) ≡ map at ps
unfolding marked selected
selected_marked at m c i [] stand size rise = refl
selected_marked at m [] i (p ∷ ps) stand size rise = let low = rise.0 in let high = rise.1 in absurd (omega arith)
selected_marked at m (g ∷ c) i (p ∷ ps) stand size rise = by (λ qs r. selected_marked at m c (suc i) qs stand.1 (omega arith) r) (marked_first i p ps g c)
  where
    by : ((qs : List ℕ) → RiseFrom (suc i) m qs → selected (marked (suc i) qs c) ≡ map at qs) → ((p ≡ i) × (marked i (p ∷ ps) (g ∷ c) ≡ (true, g) ∷ marked (suc i) ps c)) ⊎ ((p ≢ i) × (marked i (p ∷ ps) (g ∷ c) ≡ (false, g) ∷ marked (suc i) (p ∷ ps) c)) → selected (marked i (p ∷ ps) (g ∷ c)) ≡ map at (p ∷ ps)
    by rest (inl (same, marks)) =
        let here : g ≡ at p = sym (ap at same ∙ stand.0) in
        ap selected marks ∙ ap (λ f. f ∷ selected (marked (suc i) ps c)) here ∙ ap (λ gs. at p ∷ gs) (rest ps (subst (λ j. RiseFrom (suc j) m ps) same rise.2))
    by rest (inr (other, marks)) = ap selected marks ∙ rest (p ∷ ps) (let low = rise.0 in (omega arith, rise.1, rise.2))

-- ---- rising positions

pub rises-so : (low m : ℕ) (ps : List ℕ) → RiseFrom low m ps → rises low m ps ≡ true
rises-so low m [] h = refl
rises-so low m (p ∷ ps) h =
    let from : leb low p ≡ true = le-leb low p h.0 in
    let below : ltb p m ≡ true = lt-ltb p m h.1 in
    rw (from, below) (rises-so (suc p) m ps h.2)

pub rise_from : (low m : ℕ) (ps : List ℕ) → RiseFrom low m ps → (j : ℕ) → j < length ps → (low ≤ get_or ps j 0) × (get_or ps j 0 < m)
rise_from low m [] h j l = absurd (omega arith)
rise_from low m (p ∷ ps) h zero l = (h.0, h.1)
rise_from low m (p ∷ ps) h (suc j) l = let rest = rise_from (suc p) m ps h.2 j (omega arith) in let high = rest.0 in let low = h.0 in (omega arith, rest.1)

rise_at : (low m : ℕ) (ps : List ℕ) → RiseFrom low m ps → (i j : ℕ) → i < j → j < length ps → get_or ps i 0 < get_or ps j 0
rise_at low m [] h i j up l = absurd (omega arith)
rise_at low m (p ∷ ps) h i zero up l = absurd (omega arith)
rise_at low m (p ∷ ps) h zero (suc j) up l = let rest = rise_from (suc p) m ps h.2 j (omega arith) in let high = rest.0 in omega arith
rise_at low m (p ∷ ps) h (suc i) (suc j) up l = rise_at (suc p) m ps h.2 i j (omega arith) (omega arith)

-- ---- all gates

pub each_gate : (P : Inst → Type 0) (c : ProgramCircuit) → AllByRecursion P c → (x : ℕ) → x < length c → P (gate_at c x)
each_gate P [] all x l = absurd (omega arith)
each_gate P (g ∷ c) all zero l = all.0
each_gate P (g ∷ c) all (suc x) l = each_gate P c all.1 x (omega arith)

pub gates_lawful : (P : Inst → Type 0) (c : ProgramCircuit) → AllByRecursion P c → (low : ℕ) (ps : List ℕ) → RiseFrom low (length c) ps → AllByRecursion P (map (gate_at c) ps)
gates_lawful P c all low [] rise = tt
gates_lawful P c all low (p ∷ ps) rise = (each_gate P c all p rise.1, gates_lawful P c all (suc p) ps rise.2)

-- ---- a match

-- the gates of left stand at these positions under this binding
pub record IsMatch (left : Circuit) (c : ProgramCircuit) (ps : List ℕ) (bind : Binding) : Type 0 where
  pub size : length ps ≡ length left
  pub rising : RiseFrom 0 (length c) ps
  pub gathering : gathers [] [] (marked 0 ps c) ≡ true
  pub binds : bind_gates nothing_bound left (map (gate_at c) ps) ≡ Some bind
  pub gates : AreGatesOf bind left (map (gate_at c) ps)
  pub sound : IsSound bind

match_parts : (left : Circuit) (c : ProgramCircuit) (ps : List ℕ) (bind : Binding) → match_at left c ps ≡ Some bind → (length ps ≡ length left) × (gathers [] [] (marked 0 ps c) ≡ true) × (bind_gates nothing_bound left (selected (marked 0 ps c)) ≡ Some bind)
unfolding match_at
match_parts left c ps bind h = by (length ps == length left && gathers [] [] (marked 0 ps c)) refl h
  where
    by : (b : Bool) → (length ps == length left && gathers [] [] (marked 0 ps c)) ≡ b → (if b then bind_gates nothing_bound left (selected (marked 0 ps c)) else None) ≡ Some bind → (length ps ≡ length left) × (gathers [] [] (marked 0 ps c) ≡ true) × (bind_gates nothing_bound left (selected (marked 0 ps c)) ≡ Some bind)
    by false e k = absurd (let none : None ≡ Some bind = k in cc)
    by true e k = let parts = and_parts (length ps == length left) (gathers [] [] (marked 0 ps c)) e in (eqb-true (length ps) (length left) parts.0, parts.1, k)

pub match-is : (left : Circuit) (c : ProgramCircuit) (p : ℕ) (ps : List ℕ) → IsOn 3 3 left → AllByRecursion (IsProgramGate 64) c → (h : Matches left c p ps) → IsMatch left c (p ∷ ps) h.binding
match-is left c p ps on lawful h =
    let rising = rises-from 0 (length c) (p ∷ ps) h.rising in
    let parts = match_parts left c (p ∷ ps) h.binding h.match in
    let chosen : selected (marked 0 (p ∷ ps) c) ≡ map (gate_at c) (p ∷ ps) = selected_marked (gate_at c) (length c) c 0 (p ∷ ps) (program_stands c) (omega arith) rising in
    let binds : bind_gates nothing_bound left (map (gate_at c) (p ∷ ps)) ≡ Some h.binding = ap (bind_gates nothing_bound left) (sym chosen) ∙ parts.2 in
    let all = bind_gates-is 64 nothing_bound left (map (gate_at c) (p ∷ ps)) h.binding nothing_bound-sound on (gates_lawful (IsProgramGate 64) c lawful 0 (p ∷ ps) rising) binds in
    record { size = parts.0; rising = rising; gathering = parts.1; binds = binds; gates = all.all; sound = all.grows.sound }

-- ---- neighbours

-- a rule's qubit is some one just where its own is that of the program
same_test : (bind : Binding) (t s v w : ℕ) → IsSound bind → slot bind.qubits t ≡ Some v → slot bind.qubits s ≡ Some w → (t == s) ≡ (v == w)
same_test bind t s v w sound h k = by (cases_eq t s)
  where
    by : (t ≡ s) ⊎ (t ≢ s) → (t == s) ≡ (v == w)
    by (inl same) = let met : v ≡ w = (let here : slot bind.qubits t ≡ slot bind.qubits s = ap (slot bind.qubits) same in cc) in eq-eqb t s same ∙ sym (eq-eqb v w met)
    by (inr other) = ne_eqb t s other ∙ sym (ne_eqb v w (λ met. other (sound.different.different t s w (h ∙ ap Some met) k)))

pub acts-is : (bind : Binding) (f : Op) (g : Inst) (s w : ℕ) → IsSound bind → IsGateOf bind f g → slot bind.qubits s ≡ Some w → acts_on s f ≡ is_on w g
acts-is bind (RuleH t) (H v) s w sound h k = ap (λ b. b || false) (same_test bind t s v w sound h k)
acts-is bind (RuleX t) (X v) s w sound h k = ap (λ b. b || false) (same_test bind t s v w sound h k)
acts-is bind (RuleCx a t) (Cx u v) s w sound h k = rw (same_test bind a s u w sound h.0 k, same_test bind t s v w sound h.1 k)
acts-is bind (RuleRz t e) (Rz v n) s w sound h k = ap (λ b. b || false) (same_test bind t s v w sound h.0 k)
acts-is bind f g s w sound h k = absurd h

-- an operand of the rule's gate is bound to the same operand of the program's
pub operand_bound : (bind : Binding) (f : Op) (g : Inst) (o s : ℕ) → IsGateOf bind f g → slice_get (rule_qubits_of f) o ≡ Some s → (w : ℕ) × (slice_get (qubits_of g) o ≡ Some w) × (slot bind.qubits s ≡ Some w)
operand_bound bind (RuleH t) (H v) zero s h k = (v, refl, let same : t ≡ s = cc in ap (slot bind.qubits) (sym same) ∙ h)
operand_bound bind (RuleH t) (H v) (suc o) s h k = absurd (let none : None ≡ Some s = k in cc)
operand_bound bind (RuleX t) (X v) zero s h k = (v, refl, let same : t ≡ s = cc in ap (slot bind.qubits) (sym same) ∙ h)
operand_bound bind (RuleX t) (X v) (suc o) s h k = absurd (let none : None ≡ Some s = k in cc)
operand_bound bind (RuleRz t e) (Rz v n) zero s h k = (v, refl, let same : t ≡ s = cc in ap (slot bind.qubits) (sym same) ∙ h.0)
operand_bound bind (RuleRz t e) (Rz v n) (suc o) s h k = absurd (let none : None ≡ Some s = k in cc)
operand_bound bind (RuleCx a t) (Cx u v) zero s h k = (u, refl, let same : a ≡ s = cc in ap (slot bind.qubits) (sym same) ∙ h.0)
operand_bound bind (RuleCx a t) (Cx u v) (suc zero) s h k = (v, refl, let same : t ≡ s = cc in ap (slot bind.qubits) (sym same) ∙ h.1)
operand_bound bind (RuleCx a t) (Cx u v) (suc (suc o)) s h k = absurd (let none : None ≡ Some s = k in cc)
operand_bound bind f g o s h k = absurd h

pub gate_of_at : (bind : Binding) (at : ℕ → Inst) (left : Circuit) (ps : List ℕ) → AreGatesOf bind left (map at ps) → (i : ℕ) → i < length left → IsGateOf bind (rule_gate_at left i) (at (get_or ps i 0))
gate_of_at bind at [] ps h i l = absurd (omega arith)
gate_of_at bind at (f ∷ left) [] h i l = absurd h
gate_of_at bind at (f ∷ left) (p ∷ ps) h zero l = h.0
gate_of_at bind at (f ∷ left) (p ∷ ps) h (suc i) l = gate_of_at bind at left ps h.1 i (omega arith)

-- neighbours on a qubit of the rule stand at neighbours on the qubit that it is bound to
pub match_neighbours : (left : Circuit) (c : ProgramCircuit) (ps : List ℕ) (bind : Binding) → IsMatch left c ps bind → (s w i j : ℕ) → slot bind.qubits s ≡ Some w → AreNeighbours (acts_at left s) (length left) i j → AreNeighbours (on_at c w) (length c) (get_or ps i 0) (get_or ps j 0)
match_neighbours left c ps bind h s w i j bound near =
    let up = near.rising in
    let in_range = near.in_range in
    let size = h.size in
    let on : (k : ℕ) → k < length left → acts_at left s k ≡ on_at c w (get_or ps k 0) = (λ k l. acts-is bind (rule_gate_at left k) (gate_at c (get_or ps k 0)) s w h.sound (gate_of_at bind (gate_at c) left ps h.gates k l) bound) in
    let one : on_at c w (get_or ps i 0) ≡ true = sym (on i (omega arith)) ∙ near.first in
    let two : on_at c w (get_or ps j 0) ≡ true = sym (on j in_range) ∙ near.second in
    record {
      rising = rise_at 0 (length c) ps h.rising i j up (omega arith);
      in_range = (rise_from 0 (length c) ps h.rising j (omega arith)).1;
      first = one;
      second = two;
      clear = λ x from below. gaps (gate_at c) w (length c) c 0 ps [] [] (program_stands c) (omega arith) h.rising h.gathering i j up (omega arith) one (λ k a b. sym (on k (omega arith)) ∙ near.clear k a b) two x from below;
    }

-- ---- testing positions

match-so : (left : Circuit) (c : ProgramCircuit) (ps : List ℕ) → length ps ≡ length left → RiseFrom 0 (length c) ps → match_at left c ps ≡ (if gathers [] [] (marked 0 ps c) then bind_gates nothing_bound left (map (gate_at c) ps) else None)
unfolding match_at
match-so left c ps size rise =
    let long : (length ps == length left) ≡ true = eq-eqb (length ps) (length left) size in
    let chosen : selected (marked 0 ps c) ≡ map (gate_at c) ps = selected_marked (gate_at c) (length c) c 0 ps (program_stands c) (omega arith) rise in
    rw (long, chosen)

module _ (left : Circuit) (c : ProgramCircuit) (ps : List ℕ) (size : length ps ≡ length left) (rising : rises 0 (length c) ps ≡ true) where
  tested-is : tested left c ps ≡ option_map (λ bind. record { positions = ps; binding = bind }) (if gathers [] [] (marked 0 ps c) then bind_gates nothing_bound left (map (gate_at c) ps) else None)
  tested-is = rw rising (ap (option_map (λ (bind : Binding). record { positions = ps; binding = bind })) (match-so left c ps size (rises-from 0 (length c) ps rising)))

  pub tested_unbound : bind_gates nothing_bound left (map (gate_at c) ps) ≡ None → tested left c ps ≡ None
  tested_unbound none = tested-is ∙ rw none (by (gathers [] [] (marked 0 ps c)))
    where
      by : (b : Bool) → option_map {U = PlaceParts} (λ (bind : Binding). record { positions = ps; binding = bind }) (if b then None else None) ≡ None
      by true = refl
      by false = refl

  pub tested_apart : gathers [] [] (marked 0 ps c) ≡ false → tested left c ps ≡ None
  tested_apart apart = tested-is ∙ rw apart

  pub tested_place : (bind : Binding) → bind_gates nothing_bound left (map (gate_at c) ps) ≡ Some bind → gathers [] [] (marked 0 ps c) ≡ true → tested left c ps ≡ Some (record { positions = ps; binding = bind })
  tested_place bind binds gathering = tested-is ∙ rw (gathering, binds)
