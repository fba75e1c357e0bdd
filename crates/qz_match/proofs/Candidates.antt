-- The walk finds the only positions from a first one on at which a left side may stand.
use Rattle.std.proofs.Common.{◌≡◌, ◌≢◌, ℕ, ◌+◌, ◌<◌, ◌≤◌, ◌==◌, ◌||◌, Bool, true, false, List, [], ◌∷◌, length, get_or, take, Some, None, refl, sym, ap, ◌∙◌, subst, arith, ◌⊎◌, inl, inr}
use Rattle.std.specs.Prelude.{slice_set}
use Rattle.std.specs.List.{AllByRecursion, slice_get}
use Rattle.std.proofs.lemmas.Bool.{cases_eq, eqb-true, eq-eqb}
use Rattle.std.proofs.lemmas.List.{get_or-set_same, get_or-set_other, length-set, length-take, get_or-take, ext_get_or, take_more}
use Rattle.qz_circ.specs.declared.binding.Binding.{Binding}
use Rattle.qz_circ.specs.declared.circuit.Expr.{Expr}
use Rattle.qz_circ.specs.declared.circuit.Expr.TheVariants.{Const, Plus, Minus, Sum}
use Rattle.qz_circ.specs.declared.circuit.Op.{Op}
use Rattle.qz_circ.specs.declared.circuit.Op.TheVariants.{H as RuleH, X as RuleX, Cx as RuleCx, Rz as RuleRz}
use Rattle.qz_circ.specs.declared.circuit.Inst.{Inst}
use Rattle.qz_circ.specs.declared.circuit.Inst.TheVariants.{H, X, Cx, Rz}
use Rattle.qz_circ.specs.Circuit.{Circuit, IsOn}
use Rattle.qz_circ.specs.Exponent.{constant_turn}
use Rattle.qz_circ.specs.ProgramCircuits.{ProgramCircuit, IsProgramGate}
use Rattle.qz_circ.specs.Gathering.{qubits_of}
use Rattle.qz_circ.specs.Instances.{slot}
use Rattle.qz_circ.specs.Places.{is_listed, value_of_angle}
use Rattle.qz_match.specs.declared.neighbours.Link.{Link}
use Rattle.qz_match.specs.declared.walk.Step.{Step}
use Rattle.qz_match.specs.Neighbours.{gate_at, beside, AreLinksOf}
use Rattle.qz_match.specs.Walks.{rule_gate_at, acts_at, AreBeside, IsStep, reached, IsWalk}
use Rattle.qz_match.specs.Starts.{may_have, is_alike, Matches, AreOnly}
use Rattle.qz_match.proofs.Bindings.{IsGateOf}
use Rattle.qz_match.proofs.Matching.{IsMatch, match-is, operand_bound, gate_of_at, match_neighbours, rise_from}
use Rattle.qz_match.proofs.Walks.{IsWithin, step_within, follows_at, reached-push}

-- what the first steps found stands in each match
pub record IsWalked (left : Circuit) (c : ProgramCircuit) (p : ℕ) (steps : List Step) (k : ℕ) (found : List ℕ) : Type 0 where
  pub size : length found ≡ 6
  pub first : get_or found 0 0 ≡ p
  pub same : (ps : List ℕ) → Matches left c p ps → (j : ℕ) → is_listed (reached (0 ∷ []) (take k steps)) j ≡ true → get_or found j 0 ≡ get_or (p ∷ ps) j 0

alike_of : (bind : Binding) (f : Op) (g : Inst) → IsGateOf bind f g → is_alike f g ≡ true
alike_of bind (RuleH t) (H w) h = refl
alike_of bind (RuleX t) (X w) h = refl
alike_of bind (RuleCx a t) (Cx v w) h = refl
alike_of bind (RuleRz t e) (Rz w k) h = by e h.1
  where
    by : (e : Expr) → value_of_angle bind.params e ≡ Some k → may_have e k ≡ true
    by (Const i) f = let value : constant_turn i ≡ k = cc in eq-eqb (constant_turn i) k value
    by (Plus i) f = refl
    by (Minus i) f = refl
    by (Sum i j) f = refl
alike_of bind f g h = absurd h

-- the steps of a walk stay within the left side
pub record IsSmall (left : Circuit) (step : Step) : Type 0 where
  pub from : step.from < 6
  pub inside : step.to < length left
  pub to : step.to < 6
  pub operand : step.operand < 2

pub steps_small : (left : Circuit) (steps : List Step) → IsWalk left steps → length left ≤ 6 → (d : Step) (k : ℕ) → k < length steps → IsSmall left (get_or steps k d)
steps_small left steps walk short d k more =
    let within = step_within left (get_or steps k d) (follows_at left d (0 ∷ []) steps walk.follows k more).0 in
    let from = within.from in
    let to = within.to in
    record { from = omega arith; inside = within.to; to = omega arith; operand = within.operand }

pub walked_first : (left : Circuit) (c : ProgramCircuit) (p : ℕ) (steps : List Step) → IsWalked left c p steps 0 (p ∷ p ∷ p ∷ p ∷ p ∷ p ∷ [])
walked_first left c p steps = record { size = refl; first = refl; same = λ ps h j listed. by ps j (0 == j) refl listed }
  where
    by : (ps : List ℕ) (j : ℕ) (b : Bool) → (0 == j) ≡ b → (b || false) ≡ true → get_or (p ∷ p ∷ p ∷ p ∷ p ∷ p ∷ []) j 0 ≡ get_or (p ∷ ps) j 0
    by ps j true e h = let here : j ≡ 0 = sym (eqb-true 0 j e) in ap (λ k. get_or (p ∷ p ∷ p ∷ p ∷ p ∷ p ∷ []) k 0) here ∙ sym (ap (λ k. get_or (p ∷ ps) k 0) here)
    by ps j false e h = cc

module _ (left : Circuit) (c : ProgramCircuit) (p : ℕ) (steps : List Step) (links : List Link) (k : ℕ) (short : length left ≤ 6) (on : IsOn 3 3 left) (lawful : AllByRecursion (IsProgramGate 64) c) (walk : IsWalk left steps) (linked : AreLinksOf c links) (d : Step) (more : k < length steps) where
  step_follows : IsStep left (get_or steps k d) × (is_listed (reached (0 ∷ []) (take k steps)) (get_or steps k d).from ≡ true) × (0 < (get_or steps k d).to)
  step_follows = follows_at left d (0 ∷ []) steps walk.follows k more

  step_stays : IsWithin left (get_or steps k d)
  step_stays = step_within left (get_or steps k d) step_follows.0

  -- in each match the link from where a step starts leads to where it ends
  pub match_beside : (ps : List ℕ) → Matches left c p ps → beside links (get_or (p ∷ ps) (get_or steps k d).from 0) (get_or steps k d).operand (get_or steps k d).forward ≡ Some (get_or (p ∷ ps) (get_or steps k d).to 0)
  match_beside ps m =
      let matched = match-is left c p ps on lawful m in
      let step = step_follows.0 in
      let from = step_stays.from in
      let gate = gate_of_at m.binding (gate_at c) left (p ∷ ps) matched.gates (get_or steps k d).from from in
      let operand = operand_bound m.binding (rule_gate_at left (get_or steps k d).from) (gate_at c (get_or (p ∷ ps) (get_or steps k d).from 0)) (get_or steps k d).operand step.qubit gate step.operand in
      by matched operand.0 operand.1 operand.2 (get_or steps k d).forward (get_or steps k d).from (get_or steps k d).to refl step.beside
    where
      by : (matched : IsMatch left c (p ∷ ps) m.binding) (w : ℕ) → slice_get (qubits_of (gate_at c (get_or (p ∷ ps) (get_or steps k d).from 0))) (get_or steps k d).operand ≡ Some w → slot m.binding.qubits (step_follows.0).qubit ≡ Some w → (forward : Bool) (from to : ℕ) → from ≡ (get_or steps k d).from → AreBeside forward (acts_at left (step_follows.0).qubit) (length left) from to → beside links (get_or (p ∷ ps) from 0) (get_or steps k d).operand forward ≡ Some (get_or (p ∷ ps) to 0)
      by matched w has bound true from to e near =
          let stand = match_neighbours left c (p ∷ ps) m.binding matched (step_follows.0).qubit w from to bound near in
          linked.next (get_or (p ∷ ps) from 0) (get_or (p ∷ ps) to 0) w (get_or steps k d).operand (omega arith) (subst (λ x. slice_get (qubits_of (gate_at c (get_or (p ∷ ps) x 0))) (get_or steps k d).operand ≡ Some w) (sym e) has) stand
      by matched w has bound false from to e near =
          let stand = match_neighbours left c (p ∷ ps) m.binding matched (step_follows.0).qubit w to from bound near in
          linked.previous (get_or (p ∷ ps) to 0) (get_or (p ∷ ps) from 0) w (get_or steps k d).operand stand.in_range (subst (λ x. slice_get (qubits_of (gate_at c (get_or (p ∷ ps) x 0))) (get_or steps k d).operand ≡ Some w) (sym e) has) stand

-- in each match the gates stand within the program, at gates of the same kinds
pub match_alike : (left : Circuit) (c : ProgramCircuit) (p : ℕ) → IsOn 3 3 left → AllByRecursion (IsProgramGate 64) c → (ps : List ℕ) → Matches left c p ps → (i : ℕ) → i < length left → (get_or (p ∷ ps) i 0 < length c) × (is_alike (rule_gate_at left i) (gate_at c (get_or (p ∷ ps) i 0)) ≡ true)
match_alike left c p on lawful ps m i l =
    let matched = match-is left c p ps on lawful m in
    let size = matched.size in
    ((rise_from 0 (length c) (p ∷ ps) matched.rising i (omega arith)).1, alike_of m.binding (rule_gate_at left i) (gate_at c (get_or (p ∷ ps) i 0)) (gate_of_at m.binding (gate_at c) left (p ∷ ps) matched.gates i l))

-- one step more is walked, to where it leads in each match
pub walked_with : (left : Circuit) (c : ProgramCircuit) (p : ℕ) (steps : List Step) (k : ℕ) (found : List ℕ) → length left ≤ 6 → IsWalk left steps → IsWalked left c p steps k found → (d : Step) → k < length steps → (next : ℕ) → ((ps : List ℕ) → Matches left c p ps → next ≡ get_or (p ∷ ps) (get_or steps k d).to 0)
    → IsWalked left c p steps (k + 1) (slice_set found (get_or steps k d).to next)
walked_with left c p steps k found short walk h d more next known =
    let follows = follows_at left d (0 ∷ []) steps walk.follows k more in
    let to = (step_within left (get_or steps k d) follows.0).to in
    let size = h.size in
    let later = follows.2 in
    let other : 0 ≢ (get_or steps k d).to = omega arith in
    record {
      size = length-set found (get_or steps k d).to next ∙ h.size;
      first = get_or-set_other found (get_or steps k d).to 0 next 0 other ∙ h.first;
      same = λ ps m j listed. by ps m j to size ((get_or steps k d).to == j) refl (sym (grown j) ∙ listed) (cases_eq j (get_or steps k d).to);
    }
  where
    grown : (j : ℕ) → is_listed (reached (0 ∷ []) (take (k + 1) steps)) j ≡ (((get_or steps k d).to == j) || is_listed (reached (0 ∷ []) (take k steps)) j)
    grown j = ap (λ ss. is_listed (reached (0 ∷ []) ss) j) (take_more steps k d more) ∙ ap (λ seen. is_listed seen j) (reached-push (0 ∷ []) (take k steps) (get_or steps k d))

    by : (ps : List ℕ) → Matches left c p ps → (j : ℕ) → (get_or steps k d).to < length left → length found ≡ 6 → (b : Bool) → ((get_or steps k d).to == j) ≡ b → (b || is_listed (reached (0 ∷ []) (take k steps)) j) ≡ true → (j ≡ (get_or steps k d).to) ⊎ (j ≢ (get_or steps k d).to) → get_or (slice_set found (get_or steps k d).to next) j 0 ≡ get_or (p ∷ ps) j 0
    by ps m j to size b e listed (inl same) =
        ap (λ i. get_or (slice_set found (get_or steps k d).to next) i 0) same ∙ get_or-set_same found (get_or steps k d).to next 0 (omega arith) ∙ known ps m ∙ ap (λ i. get_or (p ∷ ps) i 0) (sym same)
    by ps m j to size true e listed (inr other) = absurd (other (sym (eqb-true (get_or steps k d).to j e)))
    by ps m j to size false e listed (inr other) = get_or-set_other found (get_or steps k d).to j next 0 other ∙ h.same ps m j listed

module _ (left : Circuit) (c : ProgramCircuit) (p : ℕ) (steps : List Step) (links : List Link) (k : ℕ) (found : List ℕ) (short : length left ≤ 6) (on : IsOn 3 3 left) (lawful : AllByRecursion (IsProgramGate 64) c) (walk : IsWalk left steps) (linked : AreLinksOf c links) (h : IsWalked left c p steps k found) (d : Step) (more : k < length steps) where
  -- the next link leads to the next gate of each match
  walk_beside : (ps : List ℕ) → Matches left c p ps → beside links (get_or found (get_or steps k d).from 0) (get_or steps k d).operand (get_or steps k d).forward ≡ Some (get_or (p ∷ ps) (get_or steps k d).to 0)
  walk_beside ps m =
      let here : get_or found (get_or steps k d).from 0 ≡ get_or (p ∷ ps) (get_or steps k d).from 0 = h.same ps m (get_or steps k d).from (follows_at left d (0 ∷ []) steps walk.follows k more).1 in
      ap (λ x. beside links x (get_or steps k d).operand (get_or steps k d).forward) here ∙ match_beside left c p steps links k short on lawful walk linked d more ps m

  pub walk_stops : beside links (get_or found (get_or steps k d).from 0) (get_or steps k d).operand (get_or steps k d).forward ≡ None → AreOnly left c p None
  walk_stops none = λ ps m. let there = walk_beside ps m in let wrong : None ≡ Some (get_or (p ∷ ps) (get_or steps k d).to 0) = sym none ∙ there in cc

  -- a match stands where the link leads
  walk_there : (next : ℕ) → beside links (get_or found (get_or steps k d).from 0) (get_or steps k d).operand (get_or steps k d).forward ≡ Some next → (ps : List ℕ) → Matches left c p ps → next ≡ get_or (p ∷ ps) (get_or steps k d).to 0
  walk_there next there ps m =
      let leads = walk_beside ps m in
      let both : Some next ≡ Some (get_or (p ∷ ps) (get_or steps k d).to 0) = sym there ∙ leads in
      cc

  -- within the program and at a gate of the same kind
  walk_alike : (next : ℕ) → beside links (get_or found (get_or steps k d).from 0) (get_or steps k d).operand (get_or steps k d).forward ≡ Some next → (ps : List ℕ) → Matches left c p ps → (next < length c) × (is_alike (rule_gate_at left (get_or steps k d).to) (gate_at c next) ≡ true)
  walk_alike next there ps m =
      let to = (step_stays left c p steps links k short on lawful walk linked d more).to in
      let stands = match_alike left c p on lawful ps m (get_or steps k d).to to in
      let known = walk_there next there ps m in
      let within = stands.0 in
      (omega arith, ap (λ x. is_alike (rule_gate_at left (get_or steps k d).to) (gate_at c x)) known ∙ stands.1)

  pub walk_leaves : (next : ℕ) → beside links (get_or found (get_or steps k d).from 0) (get_or steps k d).operand (get_or steps k d).forward ≡ Some next → length c ≤ next → AreOnly left c p None
  walk_leaves next there over = λ ps m. let within = (walk_alike next there ps m).0 in omega arith

  pub walk_differs : (next : ℕ) → beside links (get_or found (get_or steps k d).from 0) (get_or steps k d).operand (get_or steps k d).forward ≡ Some next → is_alike (rule_gate_at left (get_or steps k d).to) (gate_at c next) ≡ false → AreOnly left c p None
  walk_differs next there unlike = λ ps m. let alike = (walk_alike next there ps m).1 in let wrong : true ≡ false = sym alike ∙ unlike in cc

  pub walked_more : (next : ℕ) → beside links (get_or found (get_or steps k d).from 0) (get_or steps k d).operand (get_or steps k d).forward ≡ Some next → IsWalked left c p steps (k + 1) (slice_set found (get_or steps k d).to next)
  walked_more next there = walked_with left c p steps k found short walk h d more next (walk_there next there)

pub walked_all : (left : Circuit) (c : ProgramCircuit) (p : ℕ) (steps : List Step) (found : List ℕ) (k : ℕ) → length left ≤ 6 → 0 < length left → IsOn 3 3 left → AllByRecursion (IsProgramGate 64) c → IsWalk left steps → take k steps ≡ steps → IsWalked left c p steps k found → AreOnly left c p (Some found)
walked_all left c p steps found k short some on lawful walk whole h = (h.size, all, first)
  where
    whole_walk : (j : ℕ) → j < length left → is_listed (reached (0 ∷ []) (take k steps)) j ≡ true
    whole_walk j l = ap (λ ss. is_listed (reached (0 ∷ []) ss) j) whole ∙ walk.whole j l

    all : (ps : List ℕ) → Matches left c p ps → take (length left) found ≡ p ∷ ps
    all ps m =
        let matched = match-is left c p ps on lawful m in
        let size = h.size in
        let sizes = matched.size in
        let taken : length (take (length left) found) ≡ length left = omega (arith, length-take (length left) found) in
        ext_get_or 0 (take (length left) found) (p ∷ ps) (taken ∙ sym sizes) (λ i l. get_or-take (length left) found i 0 (omega arith) ∙ h.same ps m i (whole_walk i (omega arith)))

    first : take 1 found ≡ p ∷ []
    first = one found h.size h.first
      where
        one : (xs : List ℕ) → length xs ≡ 6 → get_or xs 0 0 ≡ p → take 1 xs ≡ p ∷ []
        one [] size e = absurd (omega arith)
        one (x ∷ xs) size e = rw e

-- a left side whose first gate isn't like the one at p matches nowhere from there
pub never_begins : (left : Circuit) (c : ProgramCircuit) (p : ℕ) → 0 < length left → IsOn 3 3 left → AllByRecursion (IsProgramGate 64) c → is_alike (rule_gate_at left 0) (gate_at c p) ≡ false → AreOnly left c p None
never_begins left c p some on lawful unlike = λ ps m.
    let matched = match-is left c p ps on lawful m in
    let alike = alike_of m.binding (rule_gate_at left 0) (gate_at c p) (gate_of_at m.binding (gate_at c) left (p ∷ ps) matched.gates 0 some) in
    let wrong : true ≡ false = sym alike ∙ unlike in
    cc
