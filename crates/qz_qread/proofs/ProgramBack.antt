-- Reading what is written gives the program back: the tokens of its pieces are the statements of the program.
use Rattle.std.proofs.Common.{◌≡◌, ◌≢◌, ℕ, ◌+◌, ◌≤◌, false, List, [], ◌∷◌, ◌++◌, length, get_or, codes, Some, refl, sym, ap, ◌∙◌, append_assoc, append-nil, length-append, arith}
use Rattle.std.specs.Prelude.{Ok}
use Rattle.std.specs.List.{AllByRecursion, AllPairs, list_any}
use Rattle.std.specs.Str.{bytes_eq}
use Rattle.std.proofs.lemmas.List.{get_or_append_left, get_or-append-add, get_or_at, map-append}
use Rattle.std.proofs.lemmas.List.Folds.{list_any_none}
use Rattle.std.proofs.lemmas.List.Sums.{sum_by-append, sum_by-cons}
use Rattle.qz_circ.specs.declared.circuit.Inst.{Inst}
use Rattle.qz_circ.specs.declared.program.Tail.{Tail}
use Rattle.qz_circ.specs.declared.token.Kind.TheVariants.{Text}
use Rattle.qz_circ.specs.Registers.{RegisterParts, names_of, total_size}
use Rattle.qz_circ.specs.Programs.{ProgramParts}
use Rattle.qz_circ.specs.ProgramCircuits.{IsProgramGate}
use Rattle.qz_circ.specs.ValidPrograms.{IsRegisterName, IsStatement, registers_of, Valid}
use Rattle.qz_circ.specs.Lexemes.{statements_of}
use Rattle.qz_circ.specs.Forms.{one, header_form}
use Rattle.qz_circ.specs.Grammar.{empty_program, with_inclusion, with_words, with_statement, with_statements, program_from}
use Rattle.qz_qread.proofs.Pieces.{Piece, lexemes_at, word, blank, qubits, register_line, gate_line, tail_line, header_line, include_line, program_pieces}
use Rattle.qz_qread.proofs.LinesRead.{Reads, LeadsTo, line_leads, lines_lead}
use Rattle.qz_qread.proofs.OperandPieces.{HaveNames, name_at, other_names}
use Rattle.qz_qread.proofs.RegisterLines.{IsNew, qreg_reads, creg_reads}
use Rattle.qz_qread.proofs.GateLines.{HasRoom, gate_line_reads}
use Rattle.qz_qread.proofs.TailLines.{tail_line_reads}

-- ---- items in the middle of a list

each_at : {A : Type 0} (P : A → Type 0) (front : List A) (x : A) (back : List A) → AllByRecursion P (front ++ x ∷ back) → P x
each_at P [] x back all = all.0
each_at P (y ∷ front) x back all = each_at P front x back all.1

pairs_front : {A : Type 0} (R : A → A → Type 0) (xs ys : List A) → AllPairs R (xs ++ ys) → AllPairs R xs
pairs_front R xs ys all i j d before within =
    let pair : R (get_or (xs ++ ys) i d) (get_or (xs ++ ys) j d) = all i j d before (omega (arith, length-append xs ys)) in
    rw (get_or_append_left xs ys d i (omega arith), get_or_append_left xs ys d j within) at pair

pairs_back : {A : Type 0} (R : A → A → Type 0) (xs ys : List A) → AllPairs R (xs ++ ys) → AllPairs R ys
pairs_back R xs ys all i j d before within =
    let pair : R (get_or (xs ++ ys) (length xs + i) d) (get_or (xs ++ ys) (length xs + j) d) = all (length xs + i) (length xs + j) d (omega arith) (omega (arith, length-append xs ys)) in
    rw (get_or-append-add xs ys i d, get_or-append-add xs ys j d) at pair

names_front : (xs ys : List RegisterParts) → HaveNames (xs ++ ys) → HaveNames xs
names_front xs ys all = pairs_front (λ a b. a ≢ b) (names_of xs) (names_of ys) (rw (map-append (λ (r : RegisterParts). r.name) xs ys) at all)

names_back : (xs ys : List RegisterParts) → HaveNames (xs ++ ys) → HaveNames ys
names_back xs ys all = pairs_back (λ a b. a ≢ b) (names_of xs) (names_of ys) (rw (map-append (λ (r : RegisterParts). r.name) xs ys) at all)

total_at : (front : List RegisterParts) (r : RegisterParts) (back : List RegisterParts) → total_size (front ++ r ∷ back) ≡ total_size front + (r.size + total_size back)
total_at front r back = sum_by-append _ front (r ∷ back) ∙ ap (λ n. total_size front + n) (sum_by-cons _ r back)

-- ---- registers

not_taken : (front : List RegisterParts) (r : RegisterParts) (back : List RegisterParts) → HaveNames (front ++ r ∷ back) → list_any (λ s. bytes_eq s.name r.name) front ≡ false
not_taken front r back differ = list_any_none (λ s. bytes_eq s.name r.name) front (λ k d within.
    (let count = length-append front (r ∷ back) in
    let other = other_names (front ++ r ∷ back) k (length front) d differ within (omega arith) in
    let own = name_at (front ++ r ∷ back) (length front) d (omega arith) ∙ ap (λ (s : RegisterParts). s.name) (get_or_at front r back d (length front) refl) in
    rw (own, get_or_append_left front (r ∷ back) d k within) at other))

new_register : (p q : ProgramParts) (r : RegisterParts) (back : List RegisterParts) → Valid p → registers_of p ≡ registers_of q ++ r ∷ back → IsNew q r
new_register p q r back valid split =
    let few = valid.few_registers in
    let count = ap length split ∙ length-append (registers_of q) (r ∷ back) in
    record {
      name = each_at IsRegisterName (names_of (registers_of q)) r.name (names_of back) (rw (split, map-append (λ (s : RegisterParts). s.name) (registers_of q) (r ∷ back)) at valid.names);
      other = not_taken (registers_of q) r back (rw split at valid.different);
      few = omega arith;
      some = each_at (λ (s : RegisterParts). 1 ≤ s.size) (registers_of q) r back (rw split at valid.sizes);
    }

-- the program with some of the registers of qubits
abbrev with_qregs : List RegisterParts → ProgramParts
with_qregs front = record { qregs = front; cregs = []; gates = []; tail = [] }

qregs_read : (len : ℕ) (p : ProgramParts) → Valid p → (front : List RegisterParts) (r : RegisterParts) (back : List RegisterParts) → p.qregs ≡ front ++ r ∷ back → Reads len (with_qregs front) (register_line (codes "qreg") r) (with_qregs (front ++ r ∷ []))
qregs_read len p valid front r back split =
    let all : registers_of p ≡ (front ++ []) ++ r ∷ (back ++ p.cregs) = rw (append-nil front) (ap (λ rs. rs ++ p.cregs) split ∙ append_assoc front (r ∷ back) p.cregs) in
    let few = valid.gates.few in
    let sum : total_size p.qregs ≡ total_size front + (r.size + total_size back) = ap total_size split ∙ total_at front r back in
    qreg_reads len (with_qregs front) r (new_register p (with_qregs front) r (back ++ p.cregs) valid all) (omega arith)

-- the program with some of the registers of bits
abbrev with_cregs : ProgramParts → List RegisterParts → ProgramParts
with_cregs p front = record { qregs = p.qregs; cregs = front; gates = []; tail = [] }

cregs_read : (len : ℕ) (p : ProgramParts) → Valid p → (front : List RegisterParts) (r : RegisterParts) (back : List RegisterParts) → p.cregs ≡ front ++ r ∷ back → Reads len (with_cregs p front) (register_line (codes "creg") r) (with_cregs p (front ++ r ∷ []))
cregs_read len p valid front r back split =
    let all : registers_of p ≡ (p.qregs ++ front) ++ r ∷ back = ap (λ rs. p.qregs ++ rs) split ∙ sym (append_assoc p.qregs front (r ∷ back)) in
    let few = valid.few_bits in
    let sum : total_size p.cregs ≡ total_size front + (r.size + total_size back) = ap total_size split ∙ total_at front r back in
    creg_reads len (with_cregs p front) r (new_register p (with_cregs p front) r back valid all) (omega arith)

-- ---- gates and statements behind them

-- the program with some of the gates
abbrev with_circuit : ProgramParts → List Inst → ProgramParts
with_circuit p front = record { qregs = p.qregs; cregs = p.cregs; gates = front; tail = [] }

gates_read : (len : ℕ) (p : ProgramParts) → Valid p → (front : List Inst) (g : Inst) (back : List Inst) → p.gates ≡ front ++ g ∷ back → Reads len (with_circuit p front) (gate_line (qubits p.qregs) g) (with_circuit p (front ++ g ∷ []))
gates_read len p valid front g back split =
    let few = valid.few_gates in
    let count = ap length split ∙ length-append front (g ∷ back) in
    let room : HasRoom (with_circuit p front) = record { names = names_front p.qregs p.cregs valid.different; first = refl; few = omega arith } in
    gate_line_reads len (with_circuit p front) g room (each_at (IsProgramGate (total_size p.qregs)) front g back (rw split at valid.gates.gates))

-- the program with some of its last statements
abbrev with_tail : ProgramParts → List Tail → ProgramParts
with_tail p front = record { qregs = p.qregs; cregs = p.cregs; gates = p.gates; tail = front }

tail_read : (len : ℕ) (p : ProgramParts) → Valid p → (front : List Tail) (t : Tail) (back : List Tail) → p.tail ≡ front ++ t ∷ back → Reads len (with_tail p front) (tail_line p.qregs p.cregs t) (with_tail p (front ++ t ∷ []))
tail_read len p valid front t back split =
    tail_line_reads len (with_tail p front) t (names_front p.qregs p.cregs valid.different) (names_back p.qregs p.cregs valid.different)
    (each_at (IsStatement p.qregs p.cregs) front t back (rw split at valid.tail))

-- ---- programs

inclusion_reads : (len : ℕ) (q : ProgramParts) → Reads len q include_line q
unfolding include_line lexemes_at with_statement with_words with_inclusion one
inclusion_reads len q = record {
  body = word (codes "include") ∷ blank ∷ record { kind = Some Text; text = codes "\"qelib1.inc\"" } ∷ [];
  ends = refl;
  inside = (refl, (refl, (refl, tt)));
  read = λ place. refl;
}

header_reads : (len : ℕ) (others : List Piece) (last : ProgramParts) → LeadsTo len empty_program others last → program_from len (statements_of (lexemes_at 0 (header_line ++ others))) ≡ Ok last
unfolding header_line lexemes_at statements_of program_from header_form one
header_reads len others last leads = leads _

none_left : (len : ℕ) (p : ProgramParts) → LeadsTo len p [] p
unfolding lexemes_at statements_of with_statements
none_left len p place = refl

regrouped : (a b c d e f : List Piece) → a ++ b ++ c ++ d ++ e ++ f ≡ a ++ (b ++ (c ++ (d ++ (e ++ (f ++ [])))))
regrouped a b c d e f = simp (append_assoc, append-nil)

-- the tokens of a valid program's pieces are read as the program
pub program_back : (p : ProgramParts) (len : ℕ) → Valid p → program_from len (statements_of (lexemes_at 0 (program_pieces p))) ≡ Ok p
unfolding program_pieces
program_back p len valid =
    let done : LeadsTo len p [] p = none_left len p in
    let tail = lines_lead len (tail_line p.qregs p.cregs) (with_tail p) p.tail [] p (tail_read len p valid) done [] p.tail refl in
    let gates = lines_lead len (gate_line (qubits p.qregs)) (with_circuit p) p.gates _ p (gates_read len p valid) tail [] p.gates refl in
    let cregs = lines_lead len (register_line (codes "creg")) (with_cregs p) p.cregs _ p (cregs_read len p valid) gates [] p.cregs refl in
    let qregs = lines_lead len (register_line (codes "qreg")) with_qregs p.qregs _ p (qregs_read len p valid) cregs [] p.qregs refl in
    let included = line_leads len empty_program include_line empty_program _ p (inclusion_reads len empty_program) qregs in
    rw (regrouped header_line include_line _ _ _ _) (header_reads len _ p included)
