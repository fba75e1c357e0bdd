-- The loop that sorts the gates up to the last position: before it, one gate more, and at its end.
use Rattle.std.proofs.Common.{◌≡◌, ℕ, suc, ◌+◌, ◌<◌, ◌≤◌, ◌==◌, Bool, true, false, List, [], ◌∷◌, ◌++◌, length, get_or, drop, refl, sym, ap, ◌∙◌, arith, cond}
use Rattle.std.proofs.lemmas.List.{append-nil}
use Rattle.qz_circ.specs.declared.circuit.Inst.{Inst}
use Rattle.qz_circ.specs.Gathering.{marked}
use Rattle.qz_circ.specs.ProgramCircuits.{ProgramCircuit}
use Rattle.qz_rewrite.specs.Sides.{qubits_in, before_by, after_by}
use Rattle.qz_rewrite.proofs.SidesAre.{marked_step, marked_no_position, marked_no_gate}

module _ (ps : List ℕ) (c : ProgramCircuit) (first : ℕ) (front late : ProgramCircuit) (bits : ℕ) where
  -- from these gates on both sides and these touched qubits, the gates from the first position up to i are sorted
  pub record IsSorted (early behind : ProgramCircuit) (touched i next : ℕ) : Type 0 where
    pub few : next ≤ length ps
    pub end : i + length (marked i (drop next ps) (drop i c)) ≡ first + length (marked first ps (drop first c))
    pub before : early ++ before_by (qubits_in touched) (marked i (drop next ps) (drop i c)) ≡ front ++ before_by (qubits_in bits) (marked first ps (drop first c))
    pub after : behind ++ after_by (qubits_in touched) (marked i (drop next ps) (drop i c)) ≡ late ++ after_by (qubits_in bits) (marked first ps (drop first c))

  -- none yet
  pub none_sorted : IsSorted front late bits first 0
  none_sorted = record { few = omega arith; end = refl; before = refl; after = refl }

  -- one more
  pub one_sorted : (before after more_before more_after : ProgramCircuit) (touched more_touched i next n : ℕ) (g : Inst) (selected : Bool) → IsSorted before after touched i next → next < length ps → i < length c →
      get_or c i g ≡ g → selected ≡ (get_or ps next 0 == i) → n ≡ cond selected 1 0 →
      ((rest : List (Bool × Inst)) → more_before ++ before_by (qubits_in more_touched) rest ≡ before ++ before_by (qubits_in touched) ((selected, g) ∷ rest)) →
      ((rest : List (Bool × Inst)) → more_after ++ after_by (qubits_in more_touched) rest ≡ after ++ after_by (qubits_in touched) ((selected, g) ∷ rest)) →
      IsSorted more_before more_after more_touched (i + 1) (next + n)
  one_sorted before after more_before more_after touched more_touched i next n g selected is less also gate choice counts add_before add_after =
      let rest = marked (i + 1) (drop (next + n) ps) (drop (i + 1) c) in
      let step : marked i (drop next ps) (drop i c) ≡ (selected, g) ∷ rest = marked_step ps c i next g less also ∙
      (λ d. (sym choice d, gate d) ∷ marked (i + 1) (drop (next + cond (sym choice d) 1 0) ps) (drop (i + 1) c)) ∙
      ap (λ k. (selected, g) ∷ marked (i + 1) (drop (next + k) ps) (drop (i + 1) c)) (sym counts) in
      let longer = ap (λ gates. i + length gates) step in
      let size = is.end in
      record {
        few = at_most selected counts;
        end = counted i (length rest) _ _ longer size;
        before = add_before rest ∙ ap (λ gates. before ++ before_by (qubits_in touched) gates) (sym step) ∙ is.before;
        after = add_after rest ∙ ap (λ gates. after ++ after_by (qubits_in touched) gates) (sym step) ∙ is.after;
      }
    where
      at_most : (b : Bool) → n ≡ cond b 1 0 → next + n ≤ length ps
      at_most true h = omega arith
      at_most false h = omega arith

      counted : (i n x y : ℕ) → x ≡ i + suc n → x ≡ y → (i + 1) + n ≡ y
      counted i n x y h k = omega arith

  -- at the end no gate is left
  all_sorted : (before after : ProgramCircuit) (touched i next : ℕ) → IsSorted before after touched i next → marked i (drop next ps) (drop i c) ≡ [] →
      (i ≡ first + length (marked first ps (drop first c))) × (before ≡ front ++ before_by (qubits_in bits) (marked first ps (drop first c))) × (after ≡ late ++ after_by (qubits_in bits) (marked first ps (drop first c)))
  unfolding before_by after_by
  all_sorted before after touched i next is nothing =
      let size = ap (λ gates. i + length gates) nothing in
      let same = is.end in (
        omega arith,
        sym (append-nil before) ∙ ap (λ gates. before ++ before_by (qubits_in touched) gates) (sym nothing) ∙ is.before,
        sym (append-nil after) ∙ ap (λ gates. after ++ after_by (qubits_in touched) gates) (sym nothing) ∙ is.after,
      )

  -- where no position is left
  pub sorted_to_last : (before after : ProgramCircuit) (touched i next : ℕ) → IsSorted before after touched i next → next ≡ length ps →
      (i ≡ first + length (marked first ps (drop first c))) × (before ≡ front ++ before_by (qubits_in bits) (marked first ps (drop first c))) × (after ≡ late ++ after_by (qubits_in bits) (marked first ps (drop first c)))
  sorted_to_last before after touched i next is none = all_sorted before after touched i next is (marked_no_position i next ps (drop i c) (omega arith))

  -- and where no gate is
  pub sorted_to_end : (before after : ProgramCircuit) (touched i next : ℕ) → IsSorted before after touched i next → length c ≤ i →
      (i ≡ first + length (marked first ps (drop first c))) × (before ≡ front ++ before_by (qubits_in bits) (marked first ps (drop first c))) × (after ≡ late ++ after_by (qubits_in bits) (marked first ps (drop first c)))
  sorted_to_end before after touched i next is none = all_sorted before after touched i next is (marked_no_gate i (drop next ps) c none)
