-- Gates that gather can be brought together: the program is that of the gates before them, of the selected ones, of those after them
-- and of the rest. So others that are equivalent to the selected ones may stand in their place.
use Rattle.std.proofs.Common.{◌≡◌, ℕ, suc, ◌+◌, ◌==◌, Bool, true, false, not, List, [], ◌∷◌, ◌++◌, map, length, drop, count_by, cond, refl, sym, ap, ◌∙◌, subst, arith, append_assoc, length-append, true≢false}
use Rattle.std.specs.Prelude.{if◌then◌else◌}
use Rattle.std.specs.List.{AllByRecursion}
use Rattle.std.proofs.lemmas.Bool.{or_parts, and_parts}
use Rattle.std.proofs.lemmas.List.{map-append, append-nil}
use Rattle.std.proofs.lemmas.List.Sums.{sum_by-append, sum_by-cons}
use Rattle.qz_circ.specs.declared.circuit.Inst.{Inst}
use Rattle.qz_circ.specs.Gathering.{shares, meets, marked, selected, is_after, gathers, before_of, after_of, replaced_at}
use Rattle.qz_circ.specs.ProgramCircuits.{ProgramCircuit, IsProgramGate, is_program_h, program_halves, EquivalentProgramCircuits}
use Rattle.qz_circ.proofs.GateSteps.{Amounts, step}
use Rattle.qz_circ.proofs.RisingLists.{each-append}
use Rattle.qz_circ.proofs.RuleGates.{as_program_gate}
use Rattle.qz_paths.proofs.Runs.{run, run-append}
use Rattle.qz_paths.proofs.Congruence.{program_gates, congruent_programs}
use Rattle.qz_paths.proofs.Commuting.{programs_apart, swapped, programs_by_runs}
use Rattle.qz_paths.proofs.Equivalences.{program_transitive}

-- what gates of a program make of amounts
abbrev run_gates : ProgramCircuit → Amounts → Amounts
run_gates gates v = run (map as_program_gate gates) v

-- some gates and then others
run_both : (gates more : ProgramCircuit) (v : Amounts) → run_gates (gates ++ more) v ≡ run_gates more (run_gates gates v)
run_both gates more v = ap (λ all. run all v) (map-append as_program_gate gates more) ∙ run-append (map as_program_gate gates) (map as_program_gate more) v

-- ---- gates that are brought together

-- a gate goes past gates that it has no common qubit with
past : (g : Inst) (gates : ProgramCircuit) (v : Amounts) → meets g gates ≡ false → step (as_program_gate g) (run_gates gates v) ≡ run_gates gates (step (as_program_gate g) v)
past g [] v none = refl
past g (f ∷ gates) v none =
    let parts = or_parts (shares g f) (meets g gates) none in
    past g gates (step (as_program_gate f) v) parts.1 ∙ ap (run_gates gates) (swapped (as_program_gate g) (as_program_gate f) v (programs_apart g f parts.0))

-- all the marked gates
abbrev pub all_of : List (Bool × Inst) → ProgramCircuit
all_of [] = []
all_of ((b, g) ∷ rest) = g ∷ all_of rest

-- those that are before come first, then the selected ones, and then those after
gathered : (chosen after : ProgramCircuit) (rest : List (Bool × Inst)) (v : Amounts) → gathers chosen after rest ≡ true →
    run_gates (all_of rest) (run_gates after (run_gates chosen v)) ≡ run_gates (after ++ after_of chosen after rest) (run_gates (chosen ++ selected rest) (run_gates (before_of chosen after rest) v))
unfolding gathers before_of after_of selected
gathered chosen after [] v h = λ d. run_gates (sym (append-nil after) d) (run_gates (sym (append-nil chosen) d) v)
gathered chosen after ((true, g) ∷ rest) v h =
    let parts = and_parts (not (meets g after)) (gathers (chosen ++ g ∷ []) after rest) h in
    let apart : meets g after ≡ false = not_true (meets g after) parts.0 in
    ap (run_gates (all_of rest)) (past g after (run_gates chosen v) apart ∙ ap (run_gates after) (sym (run_both chosen (g ∷ []) v))) ∙
    gathered (chosen ++ g ∷ []) after rest v parts.1 ∙
    ap (λ gates. run_gates (after ++ after_of (chosen ++ g ∷ []) after rest) (run_gates gates (run_gates (before_of (chosen ++ g ∷ []) after rest) v))) (append_assoc chosen (g ∷ []) (selected rest))
  where
    not_true : (b : Bool) → not b ≡ true → b ≡ false
    not_true true k = absurd (true≢false (sym k))
    not_true false k = refl
gathered chosen after ((false, g) ∷ rest) v h =
    by (is_after chosen after g) refl h (gathered chosen (after ++ g ∷ []) rest v) (gathered chosen after rest (step (as_program_gate g) v))
  where
    by : (late : Bool) → is_after chosen after g ≡ late → (if late then gathers chosen (after ++ g ∷ []) rest else gathers chosen after rest) ≡ true →
        (gathers chosen (after ++ g ∷ []) rest ≡ true →
        run_gates (all_of rest) (run_gates (after ++ g ∷ []) (run_gates chosen v)) ≡ run_gates ((after ++ g ∷ []) ++ after_of chosen (after ++ g ∷ []) rest) (run_gates (chosen ++ selected rest) (run_gates (before_of chosen (after ++ g ∷ []) rest) v))) →
        (gathers chosen after rest ≡ true →
        run_gates (all_of rest) (run_gates after (run_gates chosen (step (as_program_gate g) v))) ≡ run_gates (after ++ after_of chosen after rest) (run_gates (chosen ++ selected rest) (run_gates (before_of chosen after rest) (step (as_program_gate g) v)))) →
        run_gates (all_of rest) (step (as_program_gate g) (run_gates after (run_gates chosen v))) ≡
        run_gates (after ++ (if late then g ∷ after_of chosen (after ++ g ∷ []) rest else after_of chosen after rest)) (run_gates (chosen ++ selected rest) (run_gates (if late then before_of chosen (after ++ g ∷ []) rest else g ∷ before_of chosen after rest) v))
    by true is k one more =
        ap (run_gates (all_of rest)) (sym (run_both after (g ∷ []) (run_gates chosen v))) ∙ one k ∙
        ap (λ gates. run_gates gates (run_gates (chosen ++ selected rest) (run_gates (before_of chosen (after ++ g ∷ []) rest) v))) (append_assoc after (g ∷ []) (after_of chosen (after ++ g ∷ []) rest))
    by false is k one more =
        let parts = or_parts (meets g chosen) (meets g after) is in
        ap (run_gates (all_of rest)) (past g after (run_gates chosen v) parts.1 ∙ ap (run_gates after) (past g chosen v parts.0)) ∙ more k

-- the marked gates and the rest are all gates
pub all_marked : (i : ℕ) (ps : List ℕ) (c : ProgramCircuit) → all_of (marked i ps c) ++ drop (length (marked i ps c)) c ≡ c
unfolding marked
all_marked i [] c = refl
all_marked i (p ∷ ps) [] = refl
all_marked i (p ∷ ps) (g ∷ c) = by (p == i) (all_marked (suc i) ps c) (all_marked (suc i) (p ∷ ps) c)
  where
    by : (b : Bool) → all_of (marked (suc i) ps c) ++ drop (length (marked (suc i) ps c)) c ≡ c → all_of (marked (suc i) (p ∷ ps) c) ++ drop (length (marked (suc i) (p ∷ ps) c)) c ≡ c →
        all_of (if b then (true, g) ∷ marked (suc i) ps c else (false, g) ∷ marked (suc i) (p ∷ ps) c) ++ drop (length (if b then (true, g) ∷ marked (suc i) ps c else (false, g) ∷ marked (suc i) (p ∷ ps) c)) (g ∷ c) ≡ g ∷ c
    by true one more = ap (λ gates. g ∷ gates) one
    by false one more = ap (λ gates. g ∷ gates) more

-- ---- what is kept

-- what holds of all the marked gates holds of each part
module _ (P : Inst → Type 0) where
  before_each : (chosen after : ProgramCircuit) (rest : List (Bool × Inst)) → AllByRecursion P (all_of rest) → AllByRecursion P (before_of chosen after rest)
  unfolding before_of
  before_each chosen after [] h = tt
  before_each chosen after ((true, g) ∷ rest) h = before_each (chosen ++ g ∷ []) after rest h.1
  before_each chosen after ((false, g) ∷ rest) h = by (is_after chosen after g) (before_each chosen (after ++ g ∷ []) rest h.1) (before_each chosen after rest h.1)
    where
      by : (late : Bool) → AllByRecursion P (before_of chosen (after ++ g ∷ []) rest) → AllByRecursion P (before_of chosen after rest) → AllByRecursion P (if late then before_of chosen (after ++ g ∷ []) rest else g ∷ before_of chosen after rest)
      by true one more = one
      by false one more = (h.0, more)

  after_each : (chosen after : ProgramCircuit) (rest : List (Bool × Inst)) → AllByRecursion P (all_of rest) → AllByRecursion P (after_of chosen after rest)
  unfolding after_of
  after_each chosen after [] h = tt
  after_each chosen after ((true, g) ∷ rest) h = after_each (chosen ++ g ∷ []) after rest h.1
  after_each chosen after ((false, g) ∷ rest) h = by (is_after chosen after g) (after_each chosen (after ++ g ∷ []) rest h.1) (after_each chosen after rest h.1)
    where
      by : (late : Bool) → AllByRecursion P (after_of chosen (after ++ g ∷ []) rest) → AllByRecursion P (after_of chosen after rest) → AllByRecursion P (if late then g ∷ after_of chosen (after ++ g ∷ []) rest else after_of chosen after rest)
      by true one more = (h.0, one)
      by false one more = more

  pub selected_each : (rest : List (Bool × Inst)) → AllByRecursion P (all_of rest) → AllByRecursion P (selected rest)
  unfolding selected
  selected_each [] h = tt
  selected_each ((true, g) ∷ rest) h = (h.0, selected_each rest h.1)
  selected_each ((false, g) ∷ rest) h = selected_each rest h.1

  -- and of the rest
  each_before : (xs ys : ProgramCircuit) → AllByRecursion P (xs ++ ys) → AllByRecursion P xs
  each_before [] ys h = tt
  each_before (x ∷ xs) ys h = (h.0, each_before xs ys h.1)

  each_behind : (xs ys : ProgramCircuit) → AllByRecursion P (xs ++ ys) → AllByRecursion P ys
  each_behind [] ys h = h
  each_behind (x ∷ xs) ys h = each_behind xs ys h.1

-- as many gates are H
count_more : (test : Inst → Bool) (g : Inst) (gates : ProgramCircuit) → count_by test (g ∷ gates) ≡ cond (test g) 1 0 + count_by test gates
count_more test g gates = sum_by-cons (λ h. cond (test h) 1 0) g gates

halves_kept : (chosen after : ProgramCircuit) (rest : List (Bool × Inst)) → program_halves (all_of rest) ≡ (program_halves (before_of chosen after rest) + program_halves (selected rest)) + program_halves (after_of chosen after rest)
unfolding before_of after_of selected
halves_kept chosen after [] = refl
halves_kept chosen after ((true, g) ∷ rest) =
    let more = halves_kept (chosen ++ g ∷ []) after rest in
    omega (arith, count_more is_program_h g (all_of rest), count_more is_program_h g (selected rest))
halves_kept chosen after ((false, g) ∷ rest) = by (is_after chosen after g) (halves_kept chosen (after ++ g ∷ []) rest) (halves_kept chosen after rest)
  where
    by : (late : Bool) → program_halves (all_of rest) ≡ (program_halves (before_of chosen (after ++ g ∷ []) rest) + program_halves (selected rest)) + program_halves (after_of chosen (after ++ g ∷ []) rest) →
        program_halves (all_of rest) ≡ (program_halves (before_of chosen after rest) + program_halves (selected rest)) + program_halves (after_of chosen after rest) →
        program_halves (g ∷ all_of rest) ≡ (program_halves (if late then before_of chosen (after ++ g ∷ []) rest else g ∷ before_of chosen after rest) + program_halves (selected rest)) + program_halves (if late then g ∷ after_of chosen (after ++ g ∷ []) rest else after_of chosen after rest)
    by true one more = omega (arith, count_more is_program_h g (all_of rest), count_more is_program_h g (after_of chosen (after ++ g ∷ []) rest))
    by false one more = omega (arith, count_more is_program_h g (all_of rest), count_more is_program_h g (before_of chosen after rest))

-- each marked gate is in one part
length_kept : (chosen after : ProgramCircuit) (rest : List (Bool × Inst)) → length (all_of rest) ≡ (length (before_of chosen after rest) + length (selected rest)) + length (after_of chosen after rest)
unfolding before_of after_of selected
length_kept chosen after [] = refl
length_kept chosen after ((true, g) ∷ rest) = let more = length_kept (chosen ++ g ∷ []) after rest in omega arith
length_kept chosen after ((false, g) ∷ rest) = by (is_after chosen after g) (length_kept chosen (after ++ g ∷ []) rest) (length_kept chosen after rest)
  where
    by : (late : Bool) → length (all_of rest) ≡ (length (before_of chosen (after ++ g ∷ []) rest) + length (selected rest)) + length (after_of chosen (after ++ g ∷ []) rest) →
        length (all_of rest) ≡ (length (before_of chosen after rest) + length (selected rest)) + length (after_of chosen after rest) →
        length (g ∷ all_of rest) ≡ (length (if late then before_of chosen (after ++ g ∷ []) rest else g ∷ before_of chosen after rest) + length (selected rest)) + length (if late then g ∷ after_of chosen (after ++ g ∷ []) rest else after_of chosen after rest)
    by true one more = omega arith
    by false one more = omega arith

-- ---- the whole program

-- gates that gather, brought together
brought_together : (q : ℕ) (ps : List ℕ) (c : ProgramCircuit) → AllByRecursion (IsProgramGate q) c → gathers [] [] (marked 0 ps c) ≡ true →
    EquivalentProgramCircuits q c (before_of [] [] (marked 0 ps c) ++ selected (marked 0 ps c) ++ (after_of [] [] (marked 0 ps c) ++ drop (length (marked 0 ps c)) c))
brought_together q ps c are h =
    let m = marked 0 ps c in
    let front = before_of [] [] m in
    let chosen = selected m in
    let late = after_of [] [] m in
    let rest = drop (length m) c in
    let whole = all_marked 0 ps c in
    let each = subst (AllByRecursion (IsProgramGate q)) (sym whole) are in
    let marked_each = each_before (IsProgramGate q) (all_of m) rest each in
    let parts_each = each-append (IsProgramGate q) (front ++ chosen) (late ++ rest)
    (each-append (IsProgramGate q) front chosen (before_each (IsProgramGate q) [] [] m marked_each) (selected_each (IsProgramGate q) m marked_each))
    (each-append (IsProgramGate q) late rest (after_each (IsProgramGate q) [] [] m marked_each) (each_behind (IsProgramGate q) (all_of m) rest each)) in
    let counted = halves_kept [] [] m in
    let halves : program_halves c ≡ program_halves (front ++ chosen ++ (late ++ rest)) =
    ap program_halves (sym whole) ∙
    omega (arith, sum_by-append (λ g. cond (is_program_h g) 1 0) (all_of m) rest, sum_by-append (λ g. cond (is_program_h g) 1 0) (front ++ chosen) (late ++ rest), sum_by-append (λ g. cond (is_program_h g) 1 0) front chosen, sum_by-append (λ g. cond (is_program_h g) 1 0) late rest) in
    programs_by_runs q c (front ++ chosen ++ (late ++ rest)) (program_gates q c are) (program_gates q (front ++ chosen ++ (late ++ rest)) parts_each) halves
    (λ v.
    ap (λ gates. run_gates gates v) (sym whole) ∙ run_both (all_of m) rest v ∙ ap (run_gates rest) (gathered [] [] m v h) ∙
    sym (run_both (front ++ chosen) (late ++ rest) v ∙ ap (run_gates (late ++ rest)) (run_both front chosen v) ∙ run_both late rest (run_gates chosen (run_gates front v))))

-- the program with others in place of the selected gates is made of gates on the same qubits
pub replaced_each : (P : Inst → Type 0) (ps : List ℕ) (new c : ProgramCircuit) → AllByRecursion P c → AllByRecursion P new → AllByRecursion P (replaced_at ps new c)
unfolding replaced_at
replaced_each P ps new c are are_new =
    let m = marked 0 ps c in
    let each = subst (AllByRecursion P) (sym (all_marked 0 ps c)) are in
    let marked_each = each_before P (all_of m) (drop (length m) c) each in
    each-append P (before_of [] [] m ++ new ++ after_of [] [] m) (drop (length m) c)
    (each-append P (before_of [] [] m ++ new) (after_of [] [] m) (each-append P (before_of [] [] m) new (before_each P [] [] m marked_each) are_new) (after_each P [] [] m marked_each))
    (each_behind P (all_of m) (drop (length m) c) each)

-- and so are the selected gates
pub selected_gates : (P : Inst → Type 0) (ps : List ℕ) (c : ProgramCircuit) → AllByRecursion P c → AllByRecursion P (selected (marked 0 ps c))
selected_gates P ps c are =
    selected_each P (marked 0 ps c) (each_before P (all_of (marked 0 ps c)) (drop (length (marked 0 ps c)) c) (subst (AllByRecursion P) (sym (all_marked 0 ps c)) are))

-- where the selected gates gather and the new ones are equivalent to them, so is the program with the new ones to the program
pub replacing : (q : ℕ) (ps : List ℕ) (new c : ProgramCircuit) → AllByRecursion (IsProgramGate q) c → AllByRecursion (IsProgramGate q) new → gathers [] [] (marked 0 ps c) ≡ true →
    EquivalentProgramCircuits q (selected (marked 0 ps c)) new → EquivalentProgramCircuits q c (replaced_at ps new c)
unfolding replaced_at
replacing q ps new c are are_new h equal =
    let m = marked 0 ps c in
    let front = before_of [] [] m in
    let late = after_of [] [] m in
    let rest = drop (length m) c in
    let each = subst (AllByRecursion (IsProgramGate q)) (sym (all_marked 0 ps c)) are in
    let marked_each = each_before (IsProgramGate q) (all_of m) rest each in
    let back_each = each-append (IsProgramGate q) late rest (after_each (IsProgramGate q) [] [] m marked_each) (each_behind (IsProgramGate q) (all_of m) rest each) in
    let there = congruent_programs q front (late ++ rest) (selected m) new (before_each (IsProgramGate q) [] [] m marked_each) back_each (selected_gates (IsProgramGate q) ps c are) are_new equal in
    subst (EquivalentProgramCircuits q c) (sym (append_assoc (front ++ new) late rest))
    (program_transitive q c (front ++ selected m ++ (late ++ rest)) (front ++ new ++ (late ++ rest)) (brought_together q ps c are h) there)

-- the program with new gates is as much longer as the new ones are more than the selected ones
pub replaced_length : (ps : List ℕ) (new c : ProgramCircuit) → length (replaced_at ps new c) + length (selected (marked 0 ps c)) ≡ length c + length new
unfolding replaced_at
replaced_length ps new c =
    let m = marked 0 ps c in
    let front = before_of [] [] m in
    let late = after_of [] [] m in
    let rest = drop (length m) c in
    let parts = length_kept [] [] m in
    let whole = ap length (all_marked 0 ps c) in
    omega (arith, length-append (all_of m) rest, length-append (front ++ new ++ late) rest, length-append (front ++ new) late, length-append front new)
