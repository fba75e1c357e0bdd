-- The gates on both sides by touched qubits are those before and after the selected gates, among them all that stand before the first
-- position.
use Rattle.std.proofs.Common.{◌≡◌, ℕ, zero, suc, ◌+◌, ◌<◌, ◌≤◌, ◌==◌, ◌||◌, Bool, true, false, List, [], ◌∷◌, ◌++◌, length, get_or, drop, take, refl, sym, ap, ◌∙◌, arith, add-one, zero-add, drop-cons, cond}
use Rattle.std.proofs.lemmas.List.{drop_all}
use Rattle.std.specs.Prelude.{if◌then◌else◌}
use Rattle.std.specs.List.{list_any}
use Rattle.std.proofs.lemmas.Bool.{ne_eqb}
use Rattle.std.proofs.lemmas.List.Folds.{list_any-append}
use Rattle.qz_circ.specs.declared.circuit.Inst.{Inst}
use Rattle.qz_circ.specs.Gathering.{qubits_of, is_on, is_after, marked, before_of, after_of, replaced_at}
use Rattle.qz_circ.specs.ProgramCircuits.{ProgramCircuit}
use Rattle.qz_rewrite.specs.Sides.{qubits_in, is_touched, touched_by, before_by, after_by}
use Rattle.qz_rewrite.proofs.SideSteps.{no_bit}

-- ---- touched qubits

-- the touched qubits are those of these selected gates and of these that come after them
abbrev AreTouched : (ℕ → Bool) → ProgramCircuit → ProgramCircuit → Type 0
AreTouched touched chosen after = (w : ℕ) → touched w ≡ (list_any (is_on w) chosen || list_any (is_on w) after)

-- a test of each of two
any_either : (f g : ℕ → Bool) (ws : List ℕ) → list_any (λ w. f w || g w) ws ≡ (list_any f ws || list_any g ws)
any_either f g [] = refl
any_either f g (w ∷ ws) = ap (λ b. (f w || g w) || b) (any_either f g ws) ∙ regroup (f w) (g w) (list_any f ws) (list_any g ws)
  where
    regroup : (a b c d : Bool) → ((a || b) || (c || d)) ≡ ((a || c) || (b || d))
    regroup true b c d = refl
    regroup false true true d = refl
    regroup false true false d = refl
    regroup false false c d = refl

-- a gate has a common qubit with some of these where one of its qubits is on one of them
meets_by_qubits : (ws : List ℕ) (gates : ProgramCircuit) → list_any (λ f. list_any (λ w. is_on w f) ws) gates ≡ list_any (λ w. list_any (is_on w) gates) ws
meets_by_qubits ws [] = sym (none ws)
  where
    none : (vs : List ℕ) → list_any (λ w. false) vs ≡ false
    none [] = refl
    none (v ∷ vs) = none vs
meets_by_qubits ws (f ∷ gates) =
    ap (λ b. list_any (λ w. is_on w f) ws || b) (meets_by_qubits ws gates) ∙ sym (any_either (λ w. is_on w f) (λ w. list_any (is_on w) gates) ws)

-- a gate with a touched qubit comes after them
touched_is_after : (touched : ℕ → Bool) (chosen after : ProgramCircuit) (g : Inst) → AreTouched touched chosen after → is_touched touched g ≡ is_after chosen after g
touched_is_after touched chosen after g are =
    (λ d. list_any (λ w. are w d) (qubits_of g)) ∙
    any_either (λ w. list_any (is_on w) chosen) (λ w. list_any (is_on w) after) (qubits_of g) ∙
    sym (λ d. meets_by_qubits (qubits_of g) chosen d || meets_by_qubits (qubits_of g) after d)

-- one selected gate more
one_selected : (touched : ℕ → Bool) (chosen after : ProgramCircuit) (g : Inst) → AreTouched touched chosen after → AreTouched (touched_by touched g) (chosen ++ g ∷ []) after
one_selected touched chosen after g are w =
    ap (λ b. b || is_on w g) (are w) ∙ regroup (list_any (is_on w) chosen) (list_any (is_on w) after) (is_on w g) ∙ ap (λ b. b || list_any (is_on w) after) (sym (list_any-append (is_on w) chosen (g ∷ [])))
  where
    regroup : (a b c : Bool) → ((a || b) || c) ≡ ((a || (c || false)) || b)
    regroup true b c = refl
    regroup false true true = refl
    regroup false true false = refl
    regroup false false true = refl
    regroup false false false = refl

-- one more that comes after
one_after : (touched : ℕ → Bool) (chosen after : ProgramCircuit) (g : Inst) → AreTouched touched chosen after → AreTouched (touched_by touched g) chosen (after ++ g ∷ [])
one_after touched chosen after g are w =
    ap (λ b. b || is_on w g) (are w) ∙ regroup (list_any (is_on w) chosen) (list_any (is_on w) after) (is_on w g) ∙ ap (λ b. list_any (is_on w) chosen || b) (sym (list_any-append (is_on w) after (g ∷ [])))
  where
    regroup : (a b c : Bool) → ((a || b) || c) ≡ (a || (b || (c || false)))
    regroup true b c = refl
    regroup false true c = refl
    regroup false false true = refl
    regroup false false false = refl

-- the gates before
before_same : (touched : ℕ → Bool) (chosen after : ProgramCircuit) (rest : List (Bool × Inst)) → AreTouched touched chosen after → before_by touched rest ≡ before_of chosen after rest
unfolding before_by before_of
before_same touched chosen after [] are = refl
before_same touched chosen after ((true, g) ∷ rest) are = before_same (touched_by touched g) (chosen ++ g ∷ []) after rest (one_selected touched chosen after g are)
before_same touched chosen after ((false, g) ∷ rest) are =
    let late = before_same (touched_by touched g) chosen (after ++ g ∷ []) rest (one_after touched chosen after g are) in
    let early = before_same touched chosen after rest are in
    λ d. if touched_is_after touched chosen after g are d then late d else g ∷ early d

-- and those after
after_same : (touched : ℕ → Bool) (chosen after : ProgramCircuit) (rest : List (Bool × Inst)) → AreTouched touched chosen after → after_by touched rest ≡ after_of chosen after rest
unfolding after_by after_of
after_same touched chosen after [] are = refl
after_same touched chosen after ((true, g) ∷ rest) are = after_same (touched_by touched g) (chosen ++ g ∷ []) after rest (one_selected touched chosen after g are)
after_same touched chosen after ((false, g) ∷ rest) are =
    let late = after_same (touched_by touched g) chosen (after ++ g ∷ []) rest (one_after touched chosen after g are) in
    let early = after_same touched chosen after rest are in
    λ d. if touched_is_after touched chosen after g are d then g ∷ late d else early d

-- ---- marked gates

-- one gate at a time
pub marked_step : (ps : List ℕ) (c : ProgramCircuit) (i next : ℕ) (g : Inst) → next < length ps → i < length c →
    marked i (drop next ps) (drop i c) ≡ (get_or ps next 0 == i, get_or c i g) ∷ marked (i + 1) (drop (next + cond (get_or ps next 0 == i) 1 0) ps) (drop (i + 1) c)
unfolding marked
marked_step ps c i next g less also =
    let p = get_or ps next 0 in
    let first : drop next ps ≡ p ∷ drop (next + 1) ps = drop-cons ps next 0 less ∙ ap (λ n. p ∷ drop n ps) (sym (add-one next)) in
    let second : drop i c ≡ get_or c i g ∷ drop (i + 1) c = drop-cons c i g also ∙ ap (λ n. get_or c i g ∷ drop n c) (sym (add-one i)) in
    (λ d. marked i (first d) (second d)) ∙ by p (p == i) (get_or c i g) (drop (i + 1) c) first
  where
    by : (p : ℕ) (b : Bool) (x : Inst) (rest : ProgramCircuit) → drop next ps ≡ p ∷ drop (next + 1) ps →
        (if b then (true, x) ∷ marked (suc i) (drop (next + 1) ps) rest else (false, x) ∷ marked (suc i) (p ∷ drop (next + 1) ps) rest) ≡ (b, x) ∷ marked (i + 1) (drop (next + cond b 1 0) ps) rest
    by p true x rest first = ap (λ n. (true, x) ∷ marked n (drop (next + 1) ps) rest) (sym (add-one i))
    by p false x rest first =
        let same : next ≡ next + 0 = omega arith in
        (λ d. (false, x) ∷ marked (sym (add-one i) d) (sym first d) rest) ∙ ap (λ n. (false, x) ∷ marked (i + 1) (drop n ps) rest) same

-- where no position is left, or no gate, no gate is marked
pub marked_no_position : (i next : ℕ) (ps : List ℕ) (c : ProgramCircuit) → length ps ≤ next → marked i (drop next ps) c ≡ []
unfolding marked
marked_no_position i next ps c h = ap (λ qs. marked i qs c) (drop_all next ps h)

pub marked_no_gate : (i : ℕ) (ps : List ℕ) (c : ProgramCircuit) → length c ≤ i → marked i ps (drop i c) ≡ []
unfolding marked
marked_no_gate i ps c h = ap (marked i ps) (drop_all i c h) ∙ by ps
  where
    by : (qs : List ℕ) → marked i qs [] ≡ []
    by [] = refl
    by (q ∷ qs) = refl

-- ---- before the first position

-- all gates that stand k places before position p
module _ (p : ℕ) (ps : List ℕ) where
  -- come before the selected ones
  skipped_before : (i k : ℕ) (c : ProgramCircuit) → i + k ≤ p → k ≤ length c → before_of [] [] (marked i (p ∷ ps) c) ≡ take k c ++ before_of [] [] (marked (i + k) (p ∷ ps) (drop k c))
  unfolding marked before_of
  skipped_before i zero c below less = let same : i ≡ i + 0 = omega arith in ap (λ n. before_of [] [] (marked n (p ∷ ps) c)) same
  skipped_before i (suc k) [] below less = absurd (omega arith)
  skipped_before i (suc k) (g ∷ c) below less =
      let other : p ≡ i → ⊥ = λ h. absurd (omega arith) in
      let same : suc i + k ≡ i + suc k = omega arith in
      ap (λ b. before_of [] [] (if b then (true, g) ∷ marked (suc i) ps c else (false, g) ∷ marked (suc i) (p ∷ ps) c)) (ne_eqb p i other) ∙
      ap (λ gates. g ∷ gates) (skipped_before (suc i) k c (omega arith) (omega arith)) ∙
      ap (λ n. g ∷ take k c ++ before_of [] [] (marked n (p ∷ ps) (drop k c))) same

  -- and not after them
  skipped_after : (i k : ℕ) (c : ProgramCircuit) → i + k ≤ p → k ≤ length c → after_of [] [] (marked i (p ∷ ps) c) ≡ after_of [] [] (marked (i + k) (p ∷ ps) (drop k c))
  unfolding marked after_of
  skipped_after i zero c below less = let same : i ≡ i + 0 = omega arith in ap (λ n. after_of [] [] (marked n (p ∷ ps) c)) same
  skipped_after i (suc k) [] below less = absurd (omega arith)
  skipped_after i (suc k) (g ∷ c) below less =
      let other : p ≡ i → ⊥ = λ h. absurd (omega arith) in
      let same : suc i + k ≡ i + suc k = omega arith in
      ap (λ b. after_of [] [] (if b then (true, g) ∷ marked (suc i) ps c else (false, g) ∷ marked (suc i) (p ∷ ps) c)) (ne_eqb p i other) ∙
      skipped_after (suc i) k c (omega arith) (omega arith) ∙ ap (λ n. after_of [] [] (marked n (p ∷ ps) (drop k c))) same

  -- so many more are marked
  skipped_length : (i k : ℕ) (c : ProgramCircuit) → i + k ≤ p → k ≤ length c → length (marked i (p ∷ ps) c) ≡ k + length (marked (i + k) (p ∷ ps) (drop k c))
  unfolding marked
  skipped_length i zero c below less = let same : i ≡ i + 0 = omega arith in ap (λ n. length (marked n (p ∷ ps) c)) same ∙ omega arith
  skipped_length i (suc k) [] below less = absurd (omega arith)
  skipped_length i (suc k) (g ∷ c) below less =
      let other : p ≡ i → ⊥ = λ h. absurd (omega arith) in
      let same : suc i + k ≡ i + suc k = omega arith in
      let rest = skipped_length (suc i) k c (omega arith) (omega arith) ∙ ap (λ n. k + length (marked n (p ∷ ps) (drop k c))) same in
      ap (λ b. length (if b then (true, g) ∷ marked (suc i) ps c else (false, g) ∷ marked (suc i) (p ∷ ps) c)) (ne_eqb p i other) ∙ omega arith

-- ---- all together

-- what the gates on both sides make with new ones between them and the rest behind them
pub assembled : (ps : List ℕ) (new c : ProgramCircuit) (first : ℕ) → first ≤ length c → ((p : ℕ) (qs : List ℕ) → ps ≡ p ∷ qs → first ≤ p) → (ps ≡ [] → first ≡ 0) →
    (((take first c ++ before_by (qubits_in 0) (marked first ps (drop first c))) ++ new) ++ after_by (qubits_in 0) (marked first ps (drop first c))) ++ drop (first + length (marked first ps (drop first c))) c ≡ replaced_at ps new c
unfolding replaced_at marked before_of after_of before_by after_by
assembled [] new c first less below none =
    ap (λ n. (((take n c ++ []) ++ new) ++ []) ++ drop (n + 0) c) (none refl)
assembled (p ∷ ps) new c first less below none =
    let at_most = below p ps refl in
    let rest = marked first (p ∷ ps) (drop first c) in
    let front = skipped_before p ps 0 first c (omega arith) less ∙ ap (λ n. take first c ++ before_of [] [] (marked n (p ∷ ps) (drop first c))) (zero-add first) ∙ ap (λ gates. take first c ++ gates) (sym (before_same (qubits_in 0) [] [] rest no_bit)) in
    let late = skipped_after p ps 0 first c (omega arith) less ∙ ap (λ n. after_of [] [] (marked n (p ∷ ps) (drop first c))) (zero-add first) ∙ sym (after_same (qubits_in 0) [] [] rest no_bit) in
    let size = skipped_length p ps 0 first c (omega arith) less ∙ ap (λ n. first + length (marked n (p ∷ ps) (drop first c))) (zero-add first) in
    sym (λ d. ((front d ++ new) ++ late d) ++ drop (size d) c)

-- the same from what was told of each part
pub assembled_from : (ps : List ℕ) (new c : ProgramCircuit) (first end touched : ℕ) (front none before after out : ProgramCircuit) → out ≡ ((before ++ new) ++ after) ++ drop end c →
    before ≡ front ++ before_by (qubits_in touched) (marked first ps (drop first c)) → after ≡ none ++ after_by (qubits_in touched) (marked first ps (drop first c)) → end ≡ first + length (marked first ps (drop first c)) →
    front ≡ take first c → none ≡ [] → touched ≡ 0 → first ≤ length c → ((p : ℕ) (qs : List ℕ) → ps ≡ p ∷ qs → first ≤ p) → (ps ≡ [] → first ≡ 0) → out ≡ replaced_at ps new c
assembled_from ps new c first end touched front none before after out written early late ends started nothing untouched less below empty =
    let m = marked first ps (drop first c) in
    written ∙ (λ d. ((early d ++ new) ++ late d) ++ drop (ends d) c) ∙
    (λ d. (((started d ++ before_by (qubits_in (untouched d)) m) ++ new) ++ (nothing d ++ after_by (qubits_in (untouched d)) m)) ++ drop (first + length m) c) ∙
    assembled ps new c first less below empty
