-- What operands and gates are read as: gates on the qubits of the registers.
use Rattle.std.proofs.Common.{◌≡◌, ◌≢◌, ℕ, zero, suc, ◌+◌, ◌*◌, ◌%◌, ◌<◌, ◌≤◌, ℤ, Bool, true, false, not, ◌&&◌, ◌==◌, nat_lt, cond, List, [], ◌∷◌, map, length, take, refl, subst, arith}
use Rattle.std.specs.Prelude.{pos, negsuc, unsigned_abs, slice_index, Option, Some, None}
use Rattle.std.specs.Int.{int_rem_euclid}
use Rattle.std.specs.List.{AllByRecursion, list_any, position, prefix_len}
use Rattle.std.specs.Option.{option_map_or, unwrap_or}
use Rattle.std.specs.Str.{bytes_eq}
use Rattle.std.proofs.lemmas.Bool.{not-true, ltb-true, ltb-false, eqb-false}
use Rattle.std.proofs.lemmas.Bool.Decides.{nat_tests}
use Rattle.std.proofs.lemmas.List.{length-map, length-take, get_or-take}
use Rattle.std.proofs.lemmas.List.Elements.{All-from_recursion, recursion_from_All}
use Rattle.std.proofs.lemmas.List.FromFn.{length-range_with_len, get_or-range_with_len}
use Rattle.std.proofs.lemmas.List.Quantifiers.{position-Some}
use Rattle.std.proofs.lemmas.List.Sums.{sum_by-cons, prefix_len_passes}
use Rattle.qz_circ.specs.declared.token.Token.{Token}
use Rattle.qz_circ.specs.declared.circuit.Inst.{Inst}
use Rattle.qz_circ.specs.declared.program.Arg.{Arg}
use Rattle.qz_circ.specs.declared.fault.QasmFault.TheVariants as fault
use Rattle.qz_circ.specs.declared.gate_name.GateName.{GateName}
use Rattle.qz_circ.specs.declared.gate_name.GateName.TheVariants as name
use Rattle.qz_circ.specs.Angle.{Value, is_zero, expression, unary, most_nested, all_read, start_of, end_of, turns_of, angle_of}
use Rattle.qz_circ.specs.Circuit.{below}
use Rattle.qz_circ.specs.GateNames.{takes_angle, more_operands, read_as}
use Rattle.qz_circ.specs.ProgramCircuits.{IsProgramGate}
use Rattle.qz_circ.specs.Registers.{RegisterParts, total_size}
use Rattle.qz_circ.specs.ValidPrograms.{size_at, IsPlaceBelow, IsOperand}
use Rattle.qz_circ.specs.Lexemes.{Lexeme}
use Rattle.qz_circ.specs.Forms.{value_of, Operand}
use Rattle.qz_circ.specs.Grammar.{register_named, index_below, arg_of, args_of, size_unless, whole_size, repetitions, other_size, qubit_at, qubits_at, is_repeated, same_qubit, gates_at, applied, checked_gates, angle_number}
use Rattle.qz_circ.proofs.RisingLists.{each_weaker, each_both, each-map, each-flat_map, each-range}
use Rattle.qz_qread.proofs.Readings.{Meets, Reads, Anything, done, refused, whatever, next, choice, as_other, found, unless}
use Rattle.qz_qread.proofs.ReadDeclarations.{none_by_test}

-- ---- operands

index_read : (size : ℕ) (index : Option Lexeme) → Reads (IsPlaceBelow size) (index_below size index)
index_read size None = done tt
index_read size (Some n) = choice (nat_lt (value_of n) size) (λ h. done (ltb-true (value_of n) size h)) (λ _. refused tt)

pub arg_read : (registers : List RegisterParts) (o : Operand) → Reads (IsOperand registers) (arg_of registers o)
unfolding arg_of register_named
arg_read registers o =
    let nowhere : RegisterParts = record { name = []; size = 0 } in
    next {P = λ k. k < length registers} (found (position (λ r. bytes_eq r.name o.name.text) registers) _ (λ k is. (position-Some (λ r. bytes_eq r.name o.name.text) registers k nowhere is).0) tt) (λ register within.
    next (index_read (size_at registers register) o.index) (λ index place. done (record { register = within; place = place })))

-- as many operands as there are forms of them
pub args_read : (registers : List RegisterParts) (os : List Operand) → Reads (λ args. AllByRecursion (IsOperand registers) args × (length args ≡ length os)) (args_of registers os)
unfolding args_of
args_read registers [] = done (tt, refl)
args_read registers (o ∷ os) =
    next (arg_read registers o) (λ arg h.
    next (args_read registers os) (λ others rest. done ((h, rest.0), omega arith)))

-- ---- what tests say of operands

no_number : (t : Bool) (n : ℕ) → cond t (Some n) None ≡ None → t ≡ false
no_number true n h = absurd (cc)
no_number false n h = refl

-- where no element has the first number that passes, none passes
none_passes : {A : Type 0} (test : A → Bool) (xs : List A) → position test xs ≡ None → AllByRecursion (λ x. test x ≡ false) xs
none_passes test xs h =
    let len = prefix_len (λ x. not (test x)) xs in
    let all : length xs ≤ len = ltb-false len (length xs) (no_number _ len h) in
    recursion_from_All (λ x. test x ≡ false) xs (λ k d within. not-true _ (prefix_len_passes (λ x. not (test x)) xs k d (omega arith)))

-- what holds of each number below n holds of one of them
one_below : (P : ℕ → Type 0) (n : ℕ) → AllByRecursion P (below n) → (j : ℕ) → j < n → P j
one_below P n h j less =
    let here = All-from_recursion P (below n) h j 0 (omega (arith, length-range_with_len 0 n)) in
    let same = get_or-range_with_len 0 n j 0 less in
    let is : 0 + j ≡ j = omega arith in
    subst P is (subst P same here)

-- ---- qubits

-- a place of a register is a qubit of all of them
qubit_within : (registers : List RegisterParts) (k place : ℕ) → k < length registers → place < size_at registers k → total_size (take k registers) + place < total_size registers
qubit_within [] k place within below = absurd (omega arith)
qubit_within (r ∷ rs) zero place within below = omega (arith, sum_by-cons (λ (r : RegisterParts). r.size) r rs)
qubit_within (r ∷ rs) (suc k) place within below =
    let rest = qubit_within rs k place (omega arith) below in
    omega (arith, sum_by-cons (λ (r : RegisterParts). r.size) r rs, sum_by-cons (λ (r : RegisterParts). r.size) r (take k rs))

-- at a repetition the place is below the size
place_within : (size times i : ℕ) (index : Option ℕ) → IsPlaceBelow size index → option_map_or (λ n. not (n == times)) (size_unless size index) false ≡ false → i < times → unwrap_or index i < size
place_within size times i None place same less = grind (arith, nat_tests)
place_within size times i (Some n) place same less = place

operand_within : (registers : List RegisterParts) (times i : ℕ) → i < times → (a : Arg) → IsOperand registers a → option_map_or (λ n. not (n == times)) (whole_size registers a) false ≡ false → qubit_at registers i a < total_size registers
unfolding qubit_at
operand_within registers times i less a h same = qubit_within registers a.register (unwrap_or a.index i) h.register (place_within (size_at registers a.register) times i a.index h.place same less)

-- a qubit that isn't repeated is none of those before it
not_repeated : (qubits : List ℕ) (i j : ℕ) → i < j → j < length qubits → is_repeated qubits j ≡ false → slice_index qubits i ≢ slice_index qubits j
not_repeated qubits i j before within h =
    let test : ℕ → Bool = λ q. q == slice_index qubits j in
    let each = All-from_recursion (λ q. test q ≡ false) (take j qubits) (none_by_test test (take j qubits) h) i 0 (omega (arith, length-take j qubits)) in
    let same = get_or-take j qubits i 0 before in
    eqb-false (slice_index qubits i) (slice_index qubits j) (rw same at each)

-- ---- gates

-- what a gate is read as on qubits below q that differ
gate_fits : (gate : GateName) (k q a b c : ℕ) → k < 512 → a < q → (1 ≤ more_operands gate → (b < q) × (a ≢ b)) → (2 ≤ more_operands gate → (c < q) × (a ≢ c) × (b ≢ c)) → AllByRecursion (IsProgramGate q) (read_as gate k a b c)
unfolding read_as
gate_fits name.H k q a b c angle first second third = omega arith
gate_fits name.X k q a b c angle first second third = omega arith
gate_fits name.Y k q a b c angle first second third = omega arith
gate_fits name.Z k q a b c angle first second third = omega arith
gate_fits name.S k q a b c angle first second third = omega arith
gate_fits name.Sdg k q a b c angle first second third = omega arith
gate_fits name.T k q a b c angle first second third = omega arith
gate_fits name.Tdg k q a b c angle first second third = omega arith
gate_fits name.Id k q a b c angle first second third = tt
gate_fits name.Rotation zero q a b c angle first second third = tt
gate_fits name.Rotation (suc k) q a b c angle first second third = omega arith
gate_fits name.Cx k q a b c angle first second third = let two = second (omega arith) in omega arith
gate_fits name.Cz k q a b c angle first second third = let two = second (omega arith) in omega arith
gate_fits name.Swap k q a b c angle first second third = let two = second (omega arith) in omega arith
gate_fits name.Ccx k q a b c angle first second third = let two = second (omega arith) in let three = third (omega arith) in omega arith

-- the same on the first of some qubits
gates_fit : (gate : GateName) (k q : ℕ) (qubits : List ℕ) → k < 512 → length qubits ≡ suc (more_operands gate) → AllByRecursion (λ x. x < q) qubits → ((j : ℕ) → j < length qubits → is_repeated qubits j ≡ false) → AllByRecursion (IsProgramGate q) (gates_at gate k qubits)
gates_fit gate k q qubits angle len within apart =
    let at : (j : ℕ) → j < length qubits → slice_index qubits j < q = λ j h. All-from_recursion (λ x. x < q) qubits within j 0 h in
    let differ : (i j : ℕ) → i < j → j < length qubits → slice_index qubits i ≢ slice_index qubits j = λ i j before h. not_repeated qubits i j before h (apart j h) in
    gate_fits gate k q (slice_index qubits 0) (slice_index qubits 1) (slice_index qubits 2) angle (at 0 (omega arith))
    (λ more. (at 1 (omega arith), differ 0 1 (omega arith) (omega arith)))
    (λ more. (at 2 (omega arith), differ 0 2 (omega arith) (omega arith), differ 1 2 (omega arith) (omega arith)))

-- at each repetition the qubits are those of the registers
all_within : (registers : List RegisterParts) (args : List Arg) (i : ℕ) → AllByRecursion (IsOperand registers) args → other_size registers args ≡ None → i < repetitions registers args → AllByRecursion (λ x. x < total_size registers) (qubits_at registers args i)
unfolding other_size
all_within registers args i operands sizes less =
    let times = repetitions registers args in
    let is_other : Arg → Bool = λ a. option_map_or (λ m. not (m == times)) (whole_size registers a) false in
    let within = each_both (IsOperand registers) (λ a. is_other a ≡ false) (λ a. qubit_at registers i a < total_size registers) (operand_within registers times i less) args operands (none_passes is_other args sizes) in
    each-map (λ x. x < total_size registers) (qubit_at registers i) args within

-- and none is one of those before it
no_repeats : (registers : List RegisterParts) (args : List Arg) (i j : ℕ) → same_qubit registers args ≡ None → i < repetitions registers args → j < length args → is_repeated (qubits_at registers args i) j ≡ false
unfolding same_qubit
no_repeats registers args i j apart less within =
    let times = below (repetitions registers args) in
    let repeats : ℕ → ℕ → Bool = λ j i. is_repeated (qubits_at registers args i) j in
    let never = one_below (λ j. list_any (repeats j) times ≡ false) (length args) (none_passes (λ j. list_any (repeats j) times) (below (length args)) apart) j within in
    one_below (λ i. repeats j i ≡ false) (repetitions registers args) (none_by_test (repeats j) times never) i less

-- the gates at all repetitions
applied_fits : (registers : List RegisterParts) (gate : GateName) (k : ℕ) (args : List Arg) → k < 512 → AllByRecursion (IsOperand registers) args → length args ≡ suc (more_operands gate) → other_size registers args ≡ None → same_qubit registers args ≡ None → AllByRecursion (IsProgramGate (total_size registers)) (applied registers gate k args)
unfolding applied
applied_fits registers gate k args angle operands len sizes apart =
    let q = total_size registers in
    let times = repetitions registers args in
    let gates : ℕ → List Inst = λ i. gates_at gate k (qubits_at registers args i) in
    let fit : (i : ℕ) → (0 ≤ i) × (i < 0 + times) → AllByRecursion (IsProgramGate q) (gates i) = λ i h.
    let less : i < times = omega arith in
    let count = length-map args (qubit_at registers i) in
    gates_fit gate k q (qubits_at registers args i) angle (omega arith) (all_within registers args i operands sizes less) (λ j within. no_repeats registers args i j apart less (omega arith)) in
    each-flat_map (IsProgramGate q) gates (below times) (each_weaker (λ i. (0 ≤ i) × (i < 0 + times)) (λ i. AllByRecursion (IsProgramGate q) (gates i)) fit (below times) (each-range 0 times))

pub checked_read : (registers : List RegisterParts) (gate : GateName) (k : ℕ) (os : List Operand) (args : List Arg) → k < 512 → AllByRecursion (IsOperand registers) args → length args ≡ suc (more_operands gate) → Reads (AllByRecursion (IsProgramGate (total_size registers))) (checked_gates registers gate k os args)
unfolding checked_gates
checked_read registers gate k os args angle operands len =
    unless (other_size registers args) fault.Sizes os _ (λ _. tt)
    (λ sizes. unless (same_qubit registers args) fault.SameQubit os _ (λ _. tt)
    (λ apart. done (applied_fits registers gate k args angle operands len sizes apart)))

-- ---- angles

remainder_small : (z : ℤ) → unsigned_abs (int_rem_euclid z (pos 512)) < 512
remainder_small (pos n) = omega arith
remainder_small (negsuc n) = omega arith

turns_small : (place : ℕ) (a : Value) → Meets Anything (λ k. k < 512) (turns_of place a)
unfolding turns_of
turns_small place a =
    choice (not (is_zero a) && not a.is_angle) (λ _. refused tt)
    (λ _. choice (not (256 * unsigned_abs a.numerator % a.denominator == 0)) (λ _. refused tt) (λ _. done (remainder_small _)))

angle_small : (ts : List Token) → Meets Anything (λ k. k < 512) (angle_of ts)
unfolding angle_of
angle_small ts =
    next (whatever (expression (unary most_nested (end_of ts)) ts)) (λ first _.
    next (whatever (all_read (end_of ts) first.0 first.1)) (λ meaning _.
    next (whatever meaning) (λ value _.
    turns_small (start_of ts) value)))

pub angle_number_read : (gate : GateName) (ls : List Lexeme) → Reads (λ k. k < 512) (angle_number gate ls)
unfolding angle_number
angle_number_read gate ls = choice (takes_angle gate) (λ _. as_other fault.Angle _ (angle_small (map (λ l. l.token) ls)) (λ e fair. tt)) (λ _. done (omega arith))
