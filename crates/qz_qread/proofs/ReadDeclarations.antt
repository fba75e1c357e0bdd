-- A valid program stays valid with one register more.
use Rattle.std.proofs.Common.{◌≡◌, ◌≢◌, ℕ, zero, suc, ◌+◌, ◌<◌, ◌≤◌, Bool, true, false, not, ◌&&◌, ◌==◌, nat_lt, List, [], ◌∷◌, ◌++◌, length, refl, sym, subst, append_assoc, length-append, arith}
use Rattle.std.specs.Prelude.{IsTrue}
use Rattle.std.specs.List.{AllByRecursion, AllPairs, list_all, list_any}
use Rattle.std.specs.Str.{bytes_eq}
use Rattle.std.proofs.lemmas.Bool.{and_parts, or_parts, not-true, ltb-true, ltb-false}
use Rattle.std.proofs.lemmas.Bool.Decides.{nat_tests}
use Rattle.std.proofs.lemmas.Slice.Eq.{bytes_eq-Decides}
use Rattle.std.proofs.lemmas.List.{map-append, append-nil}
use Rattle.std.proofs.lemmas.List.Elements.{All-from_recursion, recursion_from_All}
use Rattle.std.proofs.lemmas.List.Kept.{AllPairs-cons}
use Rattle.std.proofs.lemmas.List.Sums.{sum_by-append}
use Rattle.qz_circ.specs.declared.circuit.Inst.{Inst}
use Rattle.qz_circ.specs.declared.circuit.Inst.TheVariants.{H, X, Cx, Rz}
use Rattle.qz_circ.specs.declared.program.Arg.{Arg}
use Rattle.qz_circ.specs.declared.program.Tail.{Tail}
use Rattle.qz_circ.specs.declared.program.Tail.TheVariants.{Barrier, Measure}
use Rattle.qz_circ.specs.declared.token.Kind.{Kind}
use Rattle.qz_circ.specs.declared.token.Kind.TheVariants.{Word}
use Rattle.qz_circ.specs.ProgramCircuits.{IsProgramGate}
use Rattle.qz_circ.specs.Tokens.{is_in_word}
use Rattle.qz_circ.specs.TokenTexts.{IsWord, Spells, IsWithinLimit}
use Rattle.qz_circ.specs.Registers.{RegisterParts, names_of, total_size}
use Rattle.qz_circ.specs.Programs.{ProgramParts}
use Rattle.qz_circ.specs.ValidPrograms.{reserved_words, IsSpelledAsName, IsRegisterName, size_at, IsPlaceBelow, IsOperand, IsStatement, registers_of, Valid}
use Rattle.qz_circ.specs.Lexemes.{Lexeme, kind_of}
use Rattle.qz_circ.specs.Forms.{is_word, is_whole, value_of, begins_lower, is_free_name, is_size, Declaration}
use Rattle.qz_circ.specs.Grammar.{has_register, declared, with_qreg, with_creg}
use Rattle.qz_circ.proofs.RisingLists.{each_weaker, each-map}
use Rattle.qz_circ.proofs.ProgramNames.{name_by_tests}
use Rattle.qz_qread.proofs.Readings.{Reads, done, refused, next, choice}
use Rattle.qz_qread.specs.Spelled.{IsSpelled}
use Rattle.qz_qread.proofs.ReadForms.{IsDeclaration}

-- ---- lists

-- a test that fails for the list fails for each element
pub none_by_test : {A : Type 0} (test : A → Bool) (xs : List A) → list_any test xs ≡ false → AllByRecursion (λ x. test x ≡ false) xs
none_by_test test [] h = tt
none_by_test test (x ∷ xs) h = let parts = or_parts (test x) (list_any test xs) h in (parts.0, none_by_test test xs parts.1)

-- a test that passes for the list passes for each element
each_by_test : {A : Type 0} (test : A → Bool) (xs : List A) → list_all test xs ≡ true → AllByRecursion (λ x. IsTrue (test x)) xs
each_by_test test [] h = tt
each_by_test test (x ∷ xs) h = let parts = and_parts (test x) (list_all test xs) h in (parts.0, each_by_test test xs parts.1)

-- one element more, between others
each-insert : {A : Type 0} (P : A → Type 0) (x : A) (xs ys : List A) → P x → AllByRecursion P (xs ++ ys) → AllByRecursion P (xs ++ x ∷ ys)
each-insert P x [] ys here rest = (here, rest)
each-insert P x (a ∷ xs) ys here rest = (rest.0, each-insert P x xs ys here rest.1)

abbrev AreDifferent : {A : Type 0} → List A → Type 0
AreDifferent xs = AllPairs (λ a b. a ≢ b) xs

different_from_first : {A : Type 0} (x : A) (xs : List A) → AreDifferent (x ∷ xs) → AllByRecursion (λ y. x ≢ y) xs
different_from_first x xs h = recursion_from_All (λ y. x ≢ y) xs (λ k d within. h 0 (suc k) d (omega arith) (omega arith))

different_others : {A : Type 0} (x : A) (xs : List A) → AreDifferent (x ∷ xs) → AreDifferent xs
different_others x xs h = λ i j d before within. h (suc i) (suc j) d (omega arith) (omega arith)

different-cons : {A : Type 0} (x : A) (xs : List A) → AllByRecursion (λ y. x ≢ y) xs → AreDifferent xs → AreDifferent (x ∷ xs)
different-cons x xs apart rest = AllPairs-cons (λ a b. a ≢ b) x xs (All-from_recursion (λ y. x ≢ y) xs apart) rest

-- one element more that is none of the others
different-insert : {A : Type 0} (x : A) (xs ys : List A) → AllByRecursion (λ y. y ≢ x) (xs ++ ys) → AreDifferent (xs ++ ys) → AreDifferent (xs ++ x ∷ ys)
different-insert x [] ys other rest = different-cons x ys (each_weaker (λ y. y ≢ x) (λ y. x ≢ y) (λ y apart same. apart (sym same)) ys other) rest
different-insert x (a ∷ xs) ys other rest =
    different-cons a (xs ++ x ∷ ys) (each-insert (λ y. a ≢ y) x xs ys other.0 (different_from_first a (xs ++ ys) rest)) (different-insert x xs ys other.1 (different_others a (xs ++ ys) rest))

-- ---- registers of both kinds

-- what a valid program says of its registers
record AreRegisters (rs : List RegisterParts) : Type 0 where
  names : AllByRecursion IsRegisterName (names_of rs)
  different : AreDifferent (names_of rs)
  few : length rs ≤ 64
  sizes : AllByRecursion (λ r. 1 ≤ r.size) rs

-- a register that may come to these
pub record IsNew (rs : List RegisterParts) (r : RegisterParts) : Type 0 where
  pub named : IsRegisterName r.name
  pub other : AllByRecursion (λ name. name ≢ r.name) (names_of rs)
  pub room : length rs < 64
  pub some : 1 ≤ r.size

registers_with : (r : RegisterParts) (xs ys : List RegisterParts) → IsNew (xs ++ ys) r → AreRegisters (xs ++ ys) → AreRegisters (xs ++ r ∷ ys)
registers_with r xs ys new old =
    let joined = map-append (λ (r : RegisterParts). r.name) xs ys in
    let same = map-append (λ (r : RegisterParts). r.name) xs (r ∷ ys) in
    record {
      names = subst (AllByRecursion IsRegisterName) (sym same) (each-insert IsRegisterName r.name (names_of xs) (names_of ys) new.named (subst (AllByRecursion IsRegisterName) joined old.names));
      different = subst AreDifferent (sym same) (different-insert r.name (names_of xs) (names_of ys) (subst (AllByRecursion (λ name. name ≢ r.name)) joined new.other) (subst AreDifferent joined old.different));
      few = let room : length (xs ++ ys) < 64 = new.room in omega (arith, length-append xs ys, length-append xs (r ∷ ys));
      sizes = each-insert (λ (r : RegisterParts). 1 ≤ r.size) r xs ys new.some old.sizes;
    }

of_valid : (p : ProgramParts) → Valid p → AreRegisters (registers_of p)
of_valid p valid = record { names = valid.names; different = valid.different; few = valid.few_registers; sizes = valid.sizes }

-- ---- what was valid before

-- these registers with more behind them
pub record Extends (old new : List RegisterParts) : Type 0 where
  pub longer : length old ≤ length new
  pub same : (k : ℕ) → k < length old → size_at new k ≡ size_at old k

extends_same : (rs : List RegisterParts) → Extends rs rs
extends_same rs = record { longer = omega arith; same = λ k h. refl }

size_at-push : (r : RegisterParts) (rs : List RegisterParts) (k : ℕ) → k < length rs → size_at (rs ++ r ∷ []) k ≡ size_at rs k
size_at-push r [] k h = absurd (omega arith)
size_at-push r (a ∷ rs) zero h = refl
size_at-push r (a ∷ rs) (suc k) h = size_at-push r rs k (omega arith)

extends_push : (rs : List RegisterParts) (r : RegisterParts) → Extends rs (rs ++ r ∷ [])
extends_push rs r = record { longer = omega (arith, length-append rs (r ∷ [])); same = size_at-push r rs }

operand_kept : (old new : List RegisterParts) (a : Arg) → Extends old new → IsOperand old a → IsOperand new a
operand_kept old new a more h = record { register = omega arith; place = subst (λ n. IsPlaceBelow n a.index) (sym (more.same a.register h.register)) h.place }

-- a statement after the gates
statement_kept : (qregs cregs more_qregs more_cregs : List RegisterParts) → Extends qregs more_qregs → Extends cregs more_cregs → (s : Tail) → IsStatement qregs cregs s → IsStatement more_qregs more_cregs s
statement_kept qregs cregs more_qregs more_cregs q c (Barrier args) h = (h.0, each_weaker (IsOperand qregs) (IsOperand more_qregs) (λ a. operand_kept qregs more_qregs a q) args h.1)
statement_kept qregs cregs more_qregs more_cregs q c (Measure from to) h = record {
  source = operand_kept qregs more_qregs from q h.source;
  target = operand_kept cregs more_cregs to c h.target;
  alike = rw (q.same from.register h.source.register, c.same to.register h.target.register) h.alike;
}

tail_kept : (qregs cregs more_qregs more_cregs : List RegisterParts) → Extends qregs more_qregs → Extends cregs more_cregs → (tail : List Tail) → AllByRecursion (IsStatement qregs cregs) tail → AllByRecursion (IsStatement more_qregs more_cregs) tail
tail_kept qregs cregs more_qregs more_cregs q c tail h = each_weaker (IsStatement qregs cregs) (IsStatement more_qregs more_cregs) (statement_kept qregs cregs more_qregs more_cregs q c) tail h

-- a gate on more qubits
gate_kept : (m n : ℕ) → m ≤ n → (g : Inst) → IsProgramGate m g → IsProgramGate n g
gate_kept m n le (H t) h = omega arith
gate_kept m n le (X t) h = omega arith
gate_kept m n le (Cx c t) h = (omega arith, omega arith, h.2)
gate_kept m n le (Rz t k) h = (omega arith, h.1, h.2)

total-push : (rs : List RegisterParts) (r : RegisterParts) → total_size (rs ++ r ∷ []) ≡ total_size rs + r.size
total-push rs r = let sum = sum_by-append (λ (r : RegisterParts). r.size) rs (r ∷ []) in omega arith

-- with a register of qubits more
valid_with_qreg : (p : ProgramParts) (r : RegisterParts) → Valid p → IsNew (registers_of p) r → total_size p.qregs + r.size ≤ 64 → Valid (record p { qregs = p.qregs ++ r ∷ [] })
valid_with_qreg p r valid new few =
    let same = append_assoc p.qregs (r ∷ []) p.cregs in
    let rs : AreRegisters ((p.qregs ++ r ∷ []) ++ p.cregs) = subst AreRegisters (sym same) (registers_with r p.qregs p.cregs new (of_valid p valid)) in
    let total = total-push p.qregs r in
    record {
      names = rs.names;
      different = rs.different;
      few_registers = rs.few;
      sizes = rs.sizes;
      few_bits = valid.few_bits;
      gates = record { few = omega arith; gates = each_weaker (IsProgramGate (total_size p.qregs)) (IsProgramGate (total_size (p.qregs ++ r ∷ []))) (gate_kept _ _ (omega arith)) p.gates valid.gates.gates };
      few_gates = valid.few_gates;
      tail = tail_kept p.qregs p.cregs (p.qregs ++ r ∷ []) p.cregs (extends_push p.qregs r) (extends_same p.cregs) p.tail valid.tail;
    }

-- with a register of bits more
valid_with_creg : (p : ProgramParts) (r : RegisterParts) → Valid p → IsNew (registers_of p) r → total_size p.cregs + r.size ≤ 4096 → Valid (record p { cregs = p.cregs ++ r ∷ [] })
valid_with_creg p r valid new few =
    let same = append_assoc p.qregs p.cregs (r ∷ []) in
    let all = append-nil (p.qregs ++ p.cregs) in
    let rs : AreRegisters (p.qregs ++ (p.cregs ++ r ∷ [])) =
    subst AreRegisters same (registers_with r (p.qregs ++ p.cregs) [] (subst (λ rs. IsNew rs r) (sym all) new) (subst AreRegisters (sym all) (of_valid p valid))) in
    let total = total-push p.cregs r in
    record {
      names = rs.names;
      different = rs.different;
      few_registers = rs.few;
      sizes = rs.sizes;
      few_bits = omega arith;
      gates = valid.gates;
      few_gates = valid.few_gates;
      tail = tail_kept p.qregs p.cregs p.qregs (p.cregs ++ r ∷ []) (extends_same p.qregs) (extends_push p.cregs r) p.tail valid.tail;
    }

-- ---- declarations

word_spelled : (kind : Kind) (text : List ℕ) → is_word kind ≡ true → Spells kind text × IsWithinLimit kind (length text) → IsWord text × (length text ≤ 64)
word_spelled Word text h spelled = (spelled.0.0, spelled.1)
word_spelled _ text h spelled = absurd (cc)

name_spelled : (text : List ℕ) → IsWord text → begins_lower text ≡ true → IsSpelledAsName text
name_spelled [] word lower = absurd word
name_spelled (b ∷ rest) word lower = (lower, each_by_test is_in_word rest word.1)

-- a word that is free is a name
free_name : (l : Lexeme) → is_free_name l ≡ true → IsSpelled l → IsRegisterName l.text
unfolding is_free_name
free_name l free spelled =
    let first = and_parts (is_word (kind_of l) && begins_lower l.text) (not (list_any (bytes_eq l.text) reserved_words)) free in
    let word = and_parts (is_word (kind_of l)) (begins_lower l.text) first.0 in
    let is = word_spelled (kind_of l) l.text word.0 spelled in
    name_by_tests l.text is.1 (name_spelled l.text is.0 word.1) (not-true _ first.1)

size_positive : (l : Lexeme) → is_size l ≡ true → 1 ≤ value_of l
size_positive l h =
    let parts = and_parts (is_whole (kind_of l)) (not (value_of l == 0)) h in
    positive (value_of l) parts.1
  where
    positive : (n : ℕ) → not (n == 0) ≡ true → 1 ≤ n
    positive n h = grind (arith, nat_tests)

unlike : (rs : List RegisterParts) (name : List ℕ) → list_any (λ r. bytes_eq r.name name) rs ≡ false → AllByRecursion (λ other. other ≢ name) (names_of rs)
unlike rs name h =
    each-map (λ other. other ≢ name) (λ r. r.name) rs (each_weaker (λ r. bytes_eq r.name name ≡ false) (λ r. r.name ≢ name) (λ r differs same. (let equal : bytes_eq r.name name ≡ true = (bytes_eq-Decides r.name name).1 same in cc)) rs (none_by_test (λ r. bytes_eq r.name name) rs h))

-- what is declared is new
declared_read : (p : ProgramParts) (d : Declaration) → IsDeclaration d → Reads (IsNew (registers_of p)) (declared p d)
unfolding declared
declared_read p d h =
    choice (has_register p d.name.text) (λ _. refused tt)
    (λ new. choice (nat_lt (length (registers_of p)) 64)
    (λ room. done (record { named = free_name d.name h.free h.spelled; other = unlike (registers_of p) d.name.text new; room = ltb-true (length (registers_of p)) 64 room; some = size_positive d.size h.size }))
    (λ _. refused tt))

pub qreg_read : (p : ProgramParts) (d : Declaration) → Valid p → IsDeclaration d → Reads Valid (with_qreg p d)
unfolding with_qreg
qreg_read p d valid h =
    next (declared_read p d h) (λ r new.
    choice (nat_lt 64 (total_size p.qregs + r.size)) (λ _. refused tt) (λ few. done (valid_with_qreg p r valid new (ltb-false 64 _ few))))

pub creg_read : (p : ProgramParts) (d : Declaration) → Valid p → IsDeclaration d → Reads Valid (with_creg p d)
unfolding with_creg
creg_read p d valid h =
    next (declared_read p d h) (λ r new.
    choice (nat_lt 4096 (total_size p.cregs + r.size)) (λ _. refused tt) (λ few. done (valid_with_creg p r valid new (ltb-false 4096 _ few))))
