-- The ranks of a circuit with one gate more at its end, and of the parts of such a circuit.
use Rattle.std.proofs.Common.{◌≡◌, ℕ, zero, suc, ◌+◌, ◌-◌, ◌*◌, ◌/◌, ◌%◌, ◌<◌, ◌≤◌, [], ◌∷◌, ◌++◌, length, get_or, true, inl, inr, refl, sym, ap, subst, ◌∙◌, arith, length-drop, mul-le-mul_right, div-add-mod'}
use Rattle.std.proofs.Math.Nat.{pow-zero, le-mul_of_pos_right}
use Rattle.std.proofs.lemmas.Bool.{cases_lt}
use Rattle.std.proofs.lemmas.List.{drop-append-le, length_push}
use Rattle.qz_circ.specs.declared.circuit.Op.TheVariants.{H}
use Rattle.qz_circ.specs.Circuit.{Limits, gates_of}
use Rattle.qz_circ.specs.Bounds.{IsLawful, gate_count}
use Rattle.qz_circ.specs.Order.{is_before, all_circuits, rank, circuit_at}
use Rattle.qz_circ.specs.Classes.{without_first, without_last}
use Rattle.qz_circ.proofs.CircuitLists.{shorter}
use Rattle.qz_circ.proofs.CircuitPlaces.{circuit_at-zero, circuit_at-with_last, circuit_at-within, within-drop}
use Rattle.qz_circ.proofs.DroppedGates.{without_last-push}
use Rattle.qz_circ.proofs.RankLemmas.{rank-circuit_at, circuit_at-rank, before_by_rank, shorter_before, last_gate, one_more, some_gate}

module _ (b : Limits) (lawful : IsLawful b) where
  -- only the empty circuit has no gate
  pub some_rank : (s : ℕ) → 0 < length (circuit_at b s) → 0 < s
  some_rank zero long = absurd (omega (arith, ap length (circuit_at-zero b)))
  some_rank (suc s) long = omega arith

  pub some_gates : (s : ℕ) → 0 < s → s < length (all_circuits b) → 0 < length (circuit_at b s)
  some_gates s some listed = omega (arith, (last_gate b lawful s (gate_count b) refl some listed).longer)

  -- the rank of a circuit of k gates is below the number of circuits of at most k gates
  rank_by_length : (k s : ℕ) → s < length (all_circuits b) → length (circuit_at b s) ≡ k → s < shorter (gate_count b) (suc k)
  rank_by_length zero s listed long = elim (cases_lt 0 s) [
    | inl some ↦ absurd (omega (arith, some_gates s some listed))
    | inr none ↦ omega (arith, pow-zero (gate_count b))
  ]
  rank_by_length (suc k) s listed long =
      let some : 0 < s = some_rank s (omega arith) in
      let last = last_gate b lawful s (gate_count b) refl some listed in
      let before = (s - 1) / gate_count b in
      let front = rank_by_length k before last.listed (omega (arith, last.longer)) in
      let few : k < b.n = omega (arith, (circuit_at-within b s listed).short) in
      let place : s ≡ before * gate_count b + (s - 1) % gate_count b + 1 = omega (arith, div-add-mod' (s - 1) (gate_count b)) in
      (one_more b k before ((s - 1) % gate_count b) (gate_count b) s refl place few front last.gate).few

  -- a circuit that is shorter than the limits allow has all gates after it
  pub row_listed : (s : ℕ) → s < length (all_circuits b) → length (circuit_at b s) < b.n → s * gate_count b + gate_count b < length (all_circuits b)
  row_listed s listed short =
      let gates = some_gate b lawful (gate_count b) refl in
      (one_more b (length (circuit_at b s)) s (gate_count b - 1) (gate_count b) (s * gate_count b + gate_count b) refl (omega arith) short
      (rank_by_length (length (circuit_at b s)) s listed refl) (omega arith)).listed

  -- without its first gate a circuit has a smaller rank
  first_rank_below : (s : ℕ) → 0 < s → s < length (all_circuits b) → rank b (without_first (circuit_at b s)) < s
  first_rank_below s some listed =
      let c = circuit_at b s in
      let within = circuit_at-within b s listed in
      let shorter_part : length (without_first c) < length c = omega (arith, length-drop 1 c, some_gates s some listed) in
      let before : is_before (without_first c) c ≡ true = shorter_before (length (without_first c)) (length c) (without_first c) c refl refl shorter_part in
      subst (λ x. rank b (without_first c) < x) (rank-circuit_at b lawful s listed) ((before_by_rank b lawful (without_first c) c (within-drop b 1 c within) within).0 before)

  module _ (s d r : ℕ) (place : r ≡ s * gate_count b + d + 1) (digit : d < gate_count b) (listed : r < length (all_circuits b)) where
    -- the circuit in front is a circuit within the limits
    front_listed : s < length (all_circuits b)
    front_listed = omega (arith, le-mul_of_pos_right s (some_gate b lawful (gate_count b) refl))

    -- the circuit in front, and the gate
    with_last : circuit_at b r ≡ circuit_at b s ++ get_or (gates_of b) d (H 0) ∷ []
    with_last = circuit_at-with_last b s d r place digit listed

    pub longer : length (circuit_at b r) ≡ length (circuit_at b s) + 1
    longer = ap length with_last ∙ length_push (circuit_at b s) (get_or (gates_of b) d (H 0))

    -- without its last gate it is the circuit in front
    pub last_rank : rank b (without_last (circuit_at b r)) ≡ s
    last_rank = ap (λ c. rank b (without_last c)) with_last ∙ ap (rank b) (without_last-push (circuit_at b s) (get_or (gates_of b) d (H 0))) ∙ rank-circuit_at b lawful s front_listed

    -- without its first gate it is empty, where it has one gate
    pub first_rank_of_one : s ≡ 0 → rank b (without_first (circuit_at b r)) ≡ 0
    first_rank_of_one none =
        let one : circuit_at b r ≡ get_or (gates_of b) d (H 0) ∷ [] = with_last ∙ ap (λ c. c ++ get_or (gates_of b) d (H 0) ∷ []) (ap (circuit_at b) none ∙ circuit_at-zero b) in
        ap (λ c. rank b (without_first c)) one ∙ ap (rank b) (sym (circuit_at-zero b)) ∙ rank-circuit_at b lawful 0 (omega arith)

    -- and else the circuit in front without its first gate, with the gate after it
    pub first_rank : 0 < s → rank b (without_first (circuit_at b r)) ≡ rank b (without_first (circuit_at b s)) * gate_count b + d + 1
    first_rank some =
        let c = circuit_at b s in
        let g = get_or (gates_of b) d (H 0) in
        let t = rank b (without_first c) in
        let below : t < s = first_rank_below s some front_listed in
        let row : suc t * gate_count b ≤ s * gate_count b = mul-le-mul_right (gate_count b) below in
        let part = t * gate_count b + d + 1 in
        let part_listed : part < length (all_circuits b) = omega arith in
        let here : circuit_at b t ≡ without_first c = circuit_at-rank b lawful (without_first c) (within-drop b 1 c (circuit_at-within b s front_listed)) in
        let moved : without_first (c ++ g ∷ []) ≡ without_first c ++ g ∷ [] = drop-append-le 1 c (g ∷ []) (some_gates s some front_listed) in
        let with_part : circuit_at b part ≡ circuit_at b t ++ g ∷ [] = circuit_at-with_last b t d part refl digit part_listed in
        ap (λ x. rank b (without_first x)) with_last ∙ ap (rank b) (moved ∙ ap (λ x. x ++ g ∷ []) (sym here) ∙ sym with_part) ∙ rank-circuit_at b lawful part part_listed
