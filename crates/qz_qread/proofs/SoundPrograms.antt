-- The pieces of valid programs are sound, and so they are the tokens of the program's text.
use Rattle.std.proofs.Common.{◌≡◌, ℕ, zero, suc, ◌+◌, ◌<◌, ◌≤◌, false, List, [], ◌∷◌, ◌++◌, length, map, flat_map, codes, refl, ◌∙◌, arith, inl}
use Rattle.std.specs.Prelude.{Option, Some, None, Ok}
use Rattle.std.specs.List.{AllByRecursion}
use Rattle.std.proofs.lemmas.List.Concat.{length-flat_map}
use Rattle.std.proofs.lemmas.List.FromFn.{length-map-range_with_len}
use Rattle.std.proofs.lemmas.List.Sums.{sum_by-cons}
use Rattle.qz_circ.specs.declared.circuit.Inst.{Inst}
use Rattle.qz_circ.specs.declared.circuit.Inst.TheVariants.{H, X, Cx, Rz}
use Rattle.qz_circ.specs.declared.program.Arg.{Arg}
use Rattle.qz_circ.specs.declared.program.Tail.{Tail}
use Rattle.qz_circ.specs.declared.program.Tail.TheVariants.{Barrier, Measure}
use Rattle.qz_circ.specs.declared.token.Token.{Token}
use Rattle.qz_circ.specs.declared.token.Kind.TheVariants.{Word, Comma, RightParen, Arrow}
use Rattle.qz_circ.specs.Circuit.{below}
use Rattle.qz_circ.specs.Lexemes.{lexemes}
use Rattle.qz_circ.specs.ProgramCircuits.{IsProgramGate}
use Rattle.qz_circ.specs.ProgramText.{text_at, program_text}
use Rattle.qz_circ.specs.Programs.{ProgramParts}
use Rattle.qz_circ.specs.Registers.{RegisterParts, names_of, total_size}
use Rattle.qz_circ.specs.Tokens.{is_blank, tokens_of}
use Rattle.qz_circ.specs.TokenTexts.{HasPoint, IsQuoted}
use Rattle.qz_circ.specs.ValidPrograms.{IsRegisterName, IsPlaceBelow, IsOperand, IsStatement, size_at, Valid}
use Rattle.qz_circ.proofs.RisingLists.{each_weaker, each-map, each-flat_map, each-range}
use Rattle.qz_qread.proofs.Pieces.{Piece, word, sign, blank, line_end, indexed, operand, pieces_at, qubits, angle, register_line, gate_line, operands, tail_line, header_line, include_line, program_pieces, lexemes_at}
use Rattle.qz_qread.proofs.PieceTexts.{text_of_program}
use Rattle.qz_qread.proofs.ExactFronts.{Fits}
use Rattle.qz_qread.proofs.SoundPieces.{AreSoundBefore, AreSound, tokens_of_pieces}
use Rattle.qz_qread.proofs.SoundOperands.{first_byte, first_byte-append, sound-append, word_begins, keyword, AreOperands, indexed_operand, placed_operand, joined_operands, angle_sound}

-- ---- lines

-- pieces that may stand between lines: sound before all but blanks, and beginning with no blank
abbrev AreLines : List Piece → Type 0
AreLines ps = (next : ℕ) → is_blank next ≡ false → AreSoundBefore next ps × (is_blank (first_byte next ps) ≡ false)

lines-append : (ps rs : List Piece) → AreLines ps → AreLines rs → AreLines (ps ++ rs)
lines-append ps rs first second next other =
    let behind = second next other in
    let here = first (first_byte next rs) behind.1 in
    (sound-append next ps rs here.0 behind.0, rw (first_byte-append next ps rs) here.1)

lines_of_all : {A : Type 0} (P : A → Type 0) (pieces : A → List Piece) → ((x : A) → P x → AreLines (pieces x)) → (xs : List A) → AllByRecursion P xs → AreLines (flat_map pieces xs)
lines_of_all P pieces each [] h = λ next other. (tt, other)
lines_of_all P pieces each (x ∷ xs) h = lines-append (pieces x) (flat_map pieces xs) (each x h.0) (lines_of_all P pieces each xs h.1)

-- the lines of elements behind lines
more_lines : {A : Type 0} (before : List Piece) (P : A → Type 0) (pieces : A → List Piece) → AreLines before → ((x : A) → P x → AreLines (pieces x)) → (xs : List A) → AllByRecursion P xs → AreLines (before ++ flat_map pieces xs)
more_lines before P pieces first each xs h = lines-append before (flat_map pieces xs) first (lines_of_all P pieces each xs h)

line_end_sound : (next : ℕ) → is_blank next ≡ false → AreSoundBefore next line_end
line_end_sound next other = ((refl, tt), refl, ((refl, omega arith), other, tt))

-- a blank and operands behind a word, and the end of the line
operand_line : (first : List ℕ) (ps : List Piece) → Fits (Some Word) first → AreOperands ps → AreLines (word first ∷ blank ∷ ps ++ line_end)
operand_line first ps fits h next other =
    let begins : is_blank (first_byte next (ps ++ line_end)) ≡ false = rw (first_byte-append next ps line_end) (h.begins 59) in (
      (fits, refl, ((refl, omega arith), begins, sound-append next ps line_end (h.sound 59 refl) (line_end_sound next other))),
      word_begins first _ next fits.0.0,
    )

-- ---- registers and operands

-- a register whose declaration and whose operands are sound
record IsSound (r : RegisterParts) : Type 0 where
  name : IsRegisterName r.name
  small : r.size ≤ 4096

register_lines : (declaring : List ℕ) → Fits (Some Word) declaring → (r : RegisterParts) → IsSound r → AreLines (register_line declaring r)
unfolding register_line
register_lines declaring fits r h = operand_line declaring (indexed r.name r.size) fits (indexed_operand r.name r.size h.name (let small = h.small in omega arith))

pieces_at_all : (P : List Piece → Type 0) (qs : List (List Piece)) (k : ℕ) → AllByRecursion P qs → k < length qs → P (pieces_at qs k)
unfolding pieces_at
pieces_at_all P [] k h within = absurd (omega arith)
pieces_at_all P (ps ∷ qs) zero h within = h.0
pieces_at_all P (ps ∷ qs) (suc k) h within = pieces_at_all P qs k h.1 (omega arith)

length-qubits : (registers : List RegisterParts) → length (qubits registers) ≡ total_size registers
unfolding qubits
length-qubits registers = length-flat_map (λ r. map (indexed r.name) (below r.size)) registers ∙ simp length-map-range_with_len

places_of : (r : RegisterParts) → IsSound r → AllByRecursion AreOperands (map (indexed r.name) (below r.size))
places_of r h =
    each-map AreOperands (indexed r.name) (below r.size)
    (each_weaker (λ k. (0 ≤ k) × (k < 0 + r.size)) (λ k. AreOperands (indexed r.name k)) (λ k within. indexed_operand r.name k h.name (let small = h.small in omega arith)) (below r.size) (each-range 0 r.size))

qubits_sound : (registers : List RegisterParts) → AllByRecursion IsSound registers → AllByRecursion AreOperands (qubits registers)
unfolding qubits
qubits_sound registers h =
    each-flat_map AreOperands (λ r. map (indexed r.name) (below r.size)) registers
    (each_weaker IsSound (λ r. AllByRecursion AreOperands (map (indexed r.name) (below r.size))) places_of registers h)

qubit_sound : (registers : List RegisterParts) (t : ℕ) → AllByRecursion IsSound registers → t < total_size registers → AreOperands (pieces_at (qubits registers) t)
qubit_sound registers t h within = pieces_at_all AreOperands (qubits registers) t (qubits_sound registers h) (omega (arith, length-qubits registers))

-- the register with a number
register_at : (registers : List RegisterParts) (k : ℕ) → AllByRecursion IsSound registers → k < length registers → IsRegisterName (text_at (names_of registers) k) × (size_at registers k ≤ 4096)
register_at [] k h within = absurd (omega arith)
register_at (r ∷ registers) zero h within = (h.0.name, h.0.small)
register_at (r ∷ registers) (suc k) h within = register_at registers k h.1 (omega arith)

place_small : (size n : ℕ) (place : Option ℕ) → IsPlaceBelow size place → size ≤ 4096 → place ≡ Some n → n < 10000
place_small size n None h small is = absurd cc
place_small size n (Some m) h small is = (let same : m ≡ n = cc in omega arith)

operand_sound : (registers : List RegisterParts) (a : Arg) → AllByRecursion IsSound registers → IsOperand registers a → AreOperands (operand registers a)
unfolding operand
operand_sound registers a h is =
    let at = register_at registers a.register h is.register in
    placed_operand (text_at (names_of registers) a.register) a.index at.0 (λ n. place_small (size_at registers a.register) n a.index is.place at.1)

operands_sound : (registers : List RegisterParts) (args : List Arg) → AllByRecursion IsSound registers → 1 ≤ length args → AllByRecursion (IsOperand registers) args → AreOperands (operands registers args)
unfolding operands
operands_sound registers [] h some all = absurd (omega arith)
operands_sound registers (a ∷ []) h some all = operand_sound registers a h all.0
operands_sound registers (a ∷ b ∷ others) h some all =
    joined_operands (operand registers a) (operands registers (b ∷ others)) (operand_sound registers a h all.0) (operands_sound registers (b ∷ others) h (omega arith) all.1)

-- ---- gates, barriers and measurements

gate_lines : (registers : List RegisterParts) → AllByRecursion IsSound registers → (g : Inst) → IsProgramGate (total_size registers) g → AreLines (gate_line (qubits registers) g)
unfolding gate_line
gate_lines registers h (H t) within = operand_line (codes "h") (pieces_at (qubits registers) t) (keyword (codes "h") (refl, refl) refl (omega arith)) (qubit_sound registers t h within)
gate_lines registers h (X t) within = operand_line (codes "x") (pieces_at (qubits registers) t) (keyword (codes "x") (refl, refl) refl (omega arith)) (qubit_sound registers t h within)
gate_lines registers h (Cx c t) within =
    operand_line (codes "cx") (pieces_at (qubits registers) c ++ sign Comma (codes ",") ∷ pieces_at (qubits registers) t) (keyword (codes "cx") (refl, refl) refl (omega arith))
    (joined_operands (pieces_at (qubits registers) c) (pieces_at (qubits registers) t) (qubit_sound registers c h within.0) (qubit_sound registers t h within.1))
gate_lines registers h (Rz t k) within = λ next other. (
    let target = qubit_sound registers t h within.0 in
    let behind : AreSoundBefore 59 (sign RightParen (codes ")") ∷ blank ∷ pieces_at (qubits registers) t) = ((refl, tt), refl, ((refl, omega arith), target.begins 59, target.sound 59 refl)) in
    let inner = sound-append 59 (angle k) (sign RightParen (codes ")") ∷ blank ∷ pieces_at (qubits registers) t) (angle_sound k within.2) behind in (
      (
        keyword (codes "rz") (refl, refl) refl (omega arith),
        refl,
        (
          (refl, tt),
          refl,
          sound-append next (angle k ++ sign RightParen (codes ")") ∷ blank ∷ pieces_at (qubits registers) t) line_end inner (line_end_sound next other),
        ),
      ),
      refl,
    )
    )

tail_lines : (qregs cregs : List RegisterParts) → AllByRecursion IsSound qregs → AllByRecursion IsSound cregs → (t : Tail) → IsStatement qregs cregs t → AreLines (tail_line qregs cregs t)
unfolding tail_line
tail_lines qregs cregs hq hc (Barrier args) is =
    operand_line (codes "barrier") (operands qregs args) (keyword (codes "barrier") (refl, refl) refl (omega arith)) (operands_sound qregs args hq is.0 is.1)
tail_lines qregs cregs hq hc (Measure from to) is =
    let source = operand_sound qregs from hq is.source in
    let target = operand_sound cregs to hc is.target in
    operand_line (codes "measure") (operand qregs from ++ blank ∷ sign Arrow (codes "->") ∷ blank ∷ operand cregs to) (keyword (codes "measure") (refl, refl) refl (omega arith)) record {
      sound = λ next ends. sound-append next (operand qregs from) (blank ∷ sign Arrow (codes "->") ∷ blank ∷ operand cregs to) (source.sound 32 refl)
          ((refl, omega arith), refl, ((refl, tt), refl, ((refl, omega arith), target.begins next, target.sound next ends)));
      begins = λ next. rw (first_byte-append next (operand qregs from) (blank ∷ sign Arrow (codes "->") ∷ blank ∷ operand cregs to)) (source.begins 32);
    }

-- ---- programs

header_lines : AreLines header_line
unfolding header_line
header_lines next other =
    let version : HasPoint (codes "2.0") = record { before = codes "2"; after = codes "0"; exponent = []; is = refl; before_digits = refl; after_digits = refl; some = omega arith; ends = inl refl } in
    ((keyword (codes "OPENQASM") (refl, refl) refl (omega arith), refl, ((refl, omega arith), refl, ((inl version, tt), refl, line_end_sound next other))), refl)

include_lines : AreLines include_line
unfolding include_line
include_lines next other =
    let file : IsQuoted (codes "\"qelib1.inc\"") = record { inside = codes "qelib1.inc"; is = refl; bytes = refl } in
    ((keyword (codes "include") (refl, refl) refl (omega arith), refl, ((refl, omega arith), refl, ((file, tt), refl, line_end_sound next other))), refl)

-- the names and sizes of registers, one by one
sound_registers : (registers : List RegisterParts) → AllByRecursion IsRegisterName (names_of registers) → total_size registers ≤ 4096 → AllByRecursion IsSound registers
sound_registers [] names few = tt
sound_registers (r ∷ registers) names few =
    let total = sum_by-cons (λ x. x.size) r registers in
    (record { name = names.0; small = omega (arith, total) }, sound_registers registers names.1 (omega (arith, total)))

-- the names of both kinds of registers
names_of_both : (first second : List RegisterParts) → AllByRecursion IsRegisterName (names_of (first ++ second)) → AllByRecursion IsRegisterName (names_of first) × AllByRecursion IsRegisterName (names_of second)
names_of_both [] second h = (tt, h)
names_of_both (r ∷ first) second h = let others = names_of_both first second h.1 in ((h.0, others.0), others.1)

-- the pieces of a valid program are sound
sound_program : (p : ProgramParts) → Valid p → AreSound (program_pieces p)
unfolding program_pieces
sound_program p valid =
    let names = names_of_both p.qregs p.cregs valid.names in
    let few : total_size p.qregs ≤ 64 = valid.gates.few in
    let qregs = sound_registers p.qregs names.0 (omega arith) in
    let cregs = sound_registers p.cregs names.1 valid.few_bits in
    let head = header_line ++ include_line in
    let with_qregs = head ++ flat_map (register_line (codes "qreg")) p.qregs in
    let with_cregs = with_qregs ++ flat_map (register_line (codes "creg")) p.cregs in
    let with_gates = with_cregs ++ flat_map (gate_line (qubits p.qregs)) p.gates in
    let qreg_lines = register_lines (codes "qreg") (keyword (codes "qreg") (refl, refl) refl (omega arith)) in
    let creg_lines = register_lines (codes "creg") (keyword (codes "creg") (refl, refl) refl (omega arith)) in
    let first = more_lines head IsSound (register_line (codes "qreg")) (lines-append header_line include_line header_lines include_lines) qreg_lines p.qregs qregs in
    let second = more_lines with_qregs IsSound (register_line (codes "creg")) first creg_lines p.cregs cregs in
    let third = more_lines with_cregs (IsProgramGate (total_size p.qregs)) (gate_line (qubits p.qregs)) second (gate_lines p.qregs qregs) p.gates valid.gates.gates in
    let all = more_lines with_gates (IsStatement p.qregs p.cregs) (tail_line p.qregs p.cregs) third (tail_lines p.qregs p.cregs qregs cregs) p.tail valid.tail in
    (all 0 refl).0

-- The text of a valid program has tokens, which are those of its pieces.
pub tokens_of_program : (p : ProgramParts) → Valid p → (ts : List Token) × (tokens_of (program_text p) ≡ Ok ts) × (lexemes (program_text p) ts ≡ lexemes_at 0 (program_pieces p))
tokens_of_program p valid = rw (← text_of_program p) (tokens_of_pieces (program_pieces p) (sound_program p valid))
