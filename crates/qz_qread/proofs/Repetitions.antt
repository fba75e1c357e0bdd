-- How often gates are applied, and on which qubits.
use Rattle.std.proofs.Common.{◌≡◌, ℕ, zero, suc, ◌+◌, ◌<◌, ◌≤◌, Bool, true, false, not, ◌==◌, nat_lt, cond, List, [], ◌∷◌, length, ◌++◌, map, take, get_or, zero-add, refl, sym, ◌∙◌, arith}
use Rattle.std.specs.Prelude.{Some, None, Option, slice_index}
use Rattle.std.specs.List.{list_any, position_or_len, flat_map, AllByRecursion}
use Rattle.std.specs.Option.{option_map_or, unwrap_or}
use Rattle.std.proofs.lemmas.List.{take-map, get_or-map, map-id, flat_map_more}
use Rattle.std.proofs.lemmas.List.FromFn.{map-range_with_len_more}
use Rattle.std.proofs.lemmas.List.Sums.{sum_by_more_le}
use Rattle.std.proofs.lemmas.Bool.Decides.{nat_tests}
use Rattle.qz_circ.specs.declared.circuit.Inst.{Inst}
use Rattle.qz_circ.specs.declared.gate_name.GateName.{GateName}
use Rattle.qz_circ.specs.declared.program.Arg.{Arg}
use Rattle.qz_circ.specs.Circuit.{below}
use Rattle.qz_circ.specs.GateNames.{read_as}
use Rattle.qz_circ.specs.Registers.{RegisterParts, total_size}
use Rattle.qz_circ.specs.ValidPrograms.{IsOperand, IsPlaceBelow, size_at}
use Rattle.qz_circ.specs.Grammar.{size_unless, whole_size, repetitions, other_size, qubits_at, qubit_at, is_repeated, gates_at}

-- a test of what is made of each
list_any-map : {X Y : Type 0} (p : Y → Bool) (f : X → Y) (xs : List X) → list_any p (map f xs) ≡ list_any (λ x. p (f x)) xs
list_any-map p f [] = refl
list_any-map p f (x ∷ xs) = rw (list_any-map p f xs) refl

-- the qubit of an operand is one of those before it
pub repeated_is : (registers : List RegisterParts) (args before : List Arg) (i j q : ℕ) (d : Arg) (found : Bool) → j < length args → before ≡ take j args → q ≡ qubit_at registers i (get_or args j d) → found ≡ list_any (λ b. qubit_at registers i b == q) before → found ≡ is_repeated (qubits_at registers args i) j
repeated_is registers args before i j q d found within front is by_search =
    rw (take-map (qubit_at registers i) j args, get_or-map (qubit_at registers i) args j d 0 within, ← is, ← front)
    (by_search ∙ sym (list_any-map (λ b. b == q) (qubit_at registers i) before))

none_is : (i n : ℕ) → cond (nat_lt i n) (Some i) None ≡ None → n ≤ i
none_is i n none = grind (arith, nat_tests)

late_by : (b : Bool) (n m : ℕ) → suc m ≤ cond (not b) (1 + n) 0 → (b ≡ false) × (m ≤ n)
late_by true n m late = absurd (omega arith)
late_by false n m late = (refl, omega arith)

passes_late : {X : Type 0} (p : X → Bool) (x : X) (xs : List X) → suc (length xs) ≤ position_or_len p (x ∷ xs) → (p x ≡ false) × (length xs ≤ position_or_len p xs)
passes_late p x xs late = late_by (p x) (position_or_len p xs) (length xs) late

-- where no place passes, no element does
none_passes : {X : Type 0} (p : X → Bool) (xs : List X) → length xs ≤ position_or_len p xs → AllByRecursion (λ x. p x ≡ false) xs
none_passes p [] late = tt
none_passes p (x ∷ xs) late = let here = passes_late p x xs late in (here.0, none_passes p xs here.1)

-- a place below the size of its register
within_size : (size times i : ℕ) (index : Option ℕ) → IsPlaceBelow size index → option_map_or (λ n. not (n == times)) (size_unless size index) false ≡ false → i < times → unwrap_or index i < size
within_size size times i None below same turn = grind (arith, nat_tests)
within_size size times i (Some place) below same turn = below

-- the qubit of an operand is below the number of qubits
qubit_below : (registers : List RegisterParts) (times i : ℕ) (a : Arg) → IsOperand registers a → option_map_or (λ n. not (n == times)) (whole_size registers a) false ≡ false → i < times → qubit_at registers i a < total_size registers
unfolding qubit_at
qubit_below registers times i a is same turn =
    let d : RegisterParts = record { name = []; size = 0 } in
    let size = get_or-map (λ r. r.size) registers a.register d 0 is.register in
    let place = within_size (size_at registers a.register) times i a.index is.place same turn in
    omega (arith, size, place, sum_by_more_le (λ r. r.size) registers a.register d is.register)

qubits_below : (registers : List RegisterParts) (times i : ℕ) (args : List Arg) → AllByRecursion (IsOperand registers) args → AllByRecursion (λ a. option_map_or (λ n. not (n == times)) (whole_size registers a) false ≡ false) args → i < times → (j : ℕ) → total_size registers ≤ 64 → slice_index (qubits_at registers args i) j < 64
qubits_below registers times i [] are same turn j few = omega arith
qubits_below registers times i (a ∷ args) are same turn zero few = omega (arith, qubit_below registers times i a are.0 same.0 turn)
qubits_below registers times i (a ∷ args) are same turn (suc j) few = qubits_below registers times i args are.1 same.1 turn j few

-- each qubit is below 64 where whole registers have one size
pub qubits_fit : (registers : List RegisterParts) (args : List Arg) → total_size registers ≤ 64 → AllByRecursion (IsOperand registers) args → None ≡ other_size registers args → (i j : ℕ) → i < repetitions registers args → slice_index (qubits_at registers args i) j < 64
unfolding other_size
qubits_fit registers args few are same i j turn =
    let times = repetitions registers args in
    let other = λ (a : Arg). option_map_or (λ n. not (n == times)) (whole_size registers a) false in
    qubits_below registers times i args are (none_passes other args (none_is (position_or_len other args) (length args) (sym same))) turn j few

below_more : (n : ℕ) → below (n + 1) ≡ below n ++ n ∷ []
below_more n = simp map-id at (map-range_with_len_more {X = ℕ} (λ x. x) 0 n n (zero-add n))

-- the gates of one repetition more
pub applied_more : (registers : List RegisterParts) (gate : GateName) (k : ℕ) (args : List Arg) (i a b c : ℕ) (old new : List Inst) → old ≡ flat_map (λ i. gates_at gate k (qubits_at registers args i)) (below i) → a ≡ slice_index (qubits_at registers args i) 0 → b ≡ slice_index (qubits_at registers args i) 1 → c ≡ slice_index (qubits_at registers args i) 2 → new ≡ old ++ read_as gate k a b c → new ≡ flat_map (λ i. gates_at gate k (qubits_at registers args i)) (below (i + 1))
applied_more registers gate k args i a b c old new before first second third pushed =
    rw (pushed, before, first, second, third, below_more i) (flat_map_more (λ i. gates_at gate k (qubits_at registers args i)) [] (below i) i)
