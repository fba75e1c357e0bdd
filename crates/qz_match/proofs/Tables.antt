-- Links between neighbours, gate by gate.
use Rattle.std.proofs.Common.{◌≡◌, ◌≢◌, ℕ, ◌+◌, ◌<◌, ◌≤◌, true, false, if◌then◌else◌, List, [], ◌∷◌, ◌++◌, length, Option, Some, sym, ap, ◌∙◌, subst, arith, ◌⊎◌, inl, inr}
use Rattle.std.specs.Prelude.{slice_set}
use Rattle.std.specs.List.{slice_get}
use Rattle.std.proofs.lemmas.Bool.{cases_eq}
use Rattle.std.proofs.lemmas.List.{get_or_push, get_or_append_left, get_or-set_same, get_or-set_other}
use Rattle.qz_circ.specs.Gathering.{qubits_of, is_on}
use Rattle.qz_circ.specs.Instances.{slot}
use Rattle.qz_circ.specs.ProgramCircuits.{ProgramCircuit}
use Rattle.qz_match.specs.declared.neighbours.Link.{Link}
use Rattle.qz_match.specs.Neighbours.{AreNeighbours, gate_at, on_at, link_at, beside, FindsPrevious, FindsNext, HasLast, HasFirst}

module _ (c : ProgramCircuit) (i : ℕ) (slots next : List (Option ℕ)) (entered : (w : ℕ) → slot next w ≡ (if is_on w (gate_at c i) then Some i else slot slots w)) where
  -- a gate on the qubit comes to stand there
  here : (w j : ℕ) → j ≡ i → on_at c w j ≡ true → slot next w ≡ Some j
  here w j same on =
      let on_here : is_on w (gate_at c i) ≡ true = subst (λ x. on_at c w x ≡ true) same on in
      entered w ∙ ap (λ b. if b then Some i else slot slots w) on_here ∙ ap Some (sym same)

  -- any other gate changes nothing there
  there : (w j : ℕ) → on_at c w i ≡ false → slot slots w ≡ Some j → slot next w ≡ Some j
  there w j off h = entered w ∙ ap (λ b. if b then Some i else slot slots w) off ∙ h

  pub last_more : HasLast c i slots → HasLast c (i + 1) next
  last_more h = λ w j below on clear. by w j below on clear (cases_eq j i)
    where
      by : (w j : ℕ) → j < i + 1 → on_at c w j ≡ true → ((x : ℕ) → j < x → x < i + 1 → on_at c w x ≡ false) → (j ≡ i) ⊎ (j ≢ i) → slot next w ≡ Some j
      by w j below on clear (inl same) = here w j same on
      by w j below on clear (inr other) = there w j (clear i (omega arith) (omega arith)) (h w j (omega arith) on (λ x p q. clear x p (omega arith)))

  pub first_more : HasFirst c (i + 1) slots → HasFirst c i next
  first_more h = λ w j from below on clear. by w j from below on clear (cases_eq j i)
    where
      by : (w j : ℕ) → i ≤ j → j < length c → on_at c w j ≡ true → ((x : ℕ) → i ≤ x → x < j → on_at c w x ≡ false) → (j ≡ i) ⊎ (j ≢ i) → slot next w ≡ Some j
      by w j from below on clear (inl same) = here w j same on
      by w j from below on clear (inr other) = there w j (clear i (omega arith) (omega arith)) (h w j (omega arith) below on (λ x p q. clear x (omega arith) q))

-- a link for one gate more
pub previous_more : (c : ProgramCircuit) (i : ℕ) (slots : List (Option ℕ)) (links : List Link) (link : Link) → length links ≡ i → HasLast c i slots → ((o w : ℕ) → slice_get (qubits_of (gate_at c i)) o ≡ Some w → slot link.previous o ≡ slot slots w) → FindsPrevious c i links → FindsPrevious c (i + 1) (links ++ link ∷ [])
previous_more c i slots links link size last looked found = λ p q w o below operand near. by p q w o below operand near (cases_eq q i)
  where
    by : (p q w o : ℕ) → q < i + 1 → slice_get (qubits_of (gate_at c q)) o ≡ Some w → AreNeighbours (on_at c w) (length c) p q → (q ≡ i) ⊎ (q ≢ i) → beside (links ++ link ∷ []) q o false ≡ Some p
    by p q w o below operand near (inl same) =
        let at_end : link_at (links ++ link ∷ []) q ≡ link = get_or_push links link (record { previous = []; next = [] }) q (size ∙ sym same) in
        let operand_here : slice_get (qubits_of (gate_at c i)) o ≡ Some w = subst (λ x. slice_get (qubits_of (gate_at c x)) o ≡ Some w) same operand in
        let rising = near.rising in
        ap (λ (l : Link). slot l.previous o) at_end ∙ looked o w operand_here ∙ last w p (omega arith) near.first (λ x a b. near.clear x a (omega arith))
    by p q w o below operand near (inr other) =
        let kept : link_at (links ++ link ∷ []) q ≡ link_at links q = get_or_append_left links (link ∷ []) (record { previous = []; next = [] }) q (omega arith) in
        ap (λ (l : Link). slot l.previous o) kept ∙ found p q w o (omega arith) operand near

-- a link behind, set for the gate at i
module _ (c : ProgramCircuit) (i : ℕ) (links : List Link) (link : Link) (within : i < length links) where
  pub previous_kept : link.previous ≡ (link_at links i).previous → FindsPrevious c (length c) links → FindsPrevious c (length c) (slice_set links i link)
  previous_kept same found = λ p q w o below operand near. by p q w o (found p q w o below operand near) (cases_eq q i)
    where
      by : (p q w o : ℕ) → beside links q o false ≡ Some p → (q ≡ i) ⊎ (q ≢ i) → beside (slice_set links i link) q o false ≡ Some p
      by p q w o h (inl equal) =
          let set_here : link_at (slice_set links i link) q ≡ link = ap (link_at (slice_set links i link)) equal ∙ get_or-set_same links i link (record { previous = []; next = [] }) within in
          ap (λ (l : Link). slot l.previous o) set_here ∙ ap (λ slots. slot slots o) (same ∙ ap (λ x. (link_at links x).previous) (sym equal)) ∙ h
      by p q w o h (inr other) = ap (λ (l : Link). slot l.previous o) (get_or-set_other links i q link (record { previous = []; next = [] }) other) ∙ h

  pub next_more : (slots : List (Option ℕ)) → HasFirst c (i + 1) slots → ((o w : ℕ) → slice_get (qubits_of (gate_at c i)) o ≡ Some w → slot link.next o ≡ slot slots w) → FindsNext c (i + 1) links → FindsNext c i (slice_set links i link)
  next_more slots first looked found = λ p q w o from operand near. by p q w o from operand near (cases_eq p i)
    where
      by : (p q w o : ℕ) → i ≤ p → slice_get (qubits_of (gate_at c p)) o ≡ Some w → AreNeighbours (on_at c w) (length c) p q → (p ≡ i) ⊎ (p ≢ i) → beside (slice_set links i link) p o true ≡ Some q
      by p q w o from operand near (inl equal) =
          let set_here : link_at (slice_set links i link) p ≡ link = ap (link_at (slice_set links i link)) equal ∙ get_or-set_same links i link (record { previous = []; next = [] }) within in
          let operand_here : slice_get (qubits_of (gate_at c i)) o ≡ Some w = subst (λ x. slice_get (qubits_of (gate_at c x)) o ≡ Some w) equal operand in
          let rising = near.rising in
          ap (λ (l : Link). slot l.next o) set_here ∙ looked o w operand_here ∙ first w q (omega arith) near.in_range near.second (λ x a b. near.clear x (omega arith) b)
      by p q w o from operand near (inr other) =
          ap (λ (l : Link). slot l.next o) (get_or-set_other links i p link (record { previous = []; next = [] }) other) ∙ found p q w o (omega arith) operand near
