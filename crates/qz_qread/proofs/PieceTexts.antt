-- The text of a program's pieces is the text of the program.
use Rattle.std.proofs.Common.{◌≡◌, ℕ, zero, suc, ◌==◌, Bool, true, false, cond, List, [], ◌∷◌, ◌++◌, map, flat_map, codes, Option, Some, None, refl, sym, ap, ◌∙◌, append_assoc}
use Rattle.std.specs.Prelude.{◌-◌, nat_lt}
use Rattle.std.specs.Fmt.{decimal}
use Rattle.std.specs.List.{join_with_byte}
use Rattle.std.proofs.lemmas.List.{map-append, append-nil}
use Rattle.std.proofs.lemmas.List.Concat.{flat_map-append}
use Rattle.qz_circ.specs.declared.circuit.Inst.{Inst}
use Rattle.qz_circ.specs.declared.circuit.Inst.TheVariants.{H, X, Cx, Rz}
use Rattle.qz_circ.specs.declared.program.Arg.{Arg}
use Rattle.qz_circ.specs.declared.program.Tail.{Tail}
use Rattle.qz_circ.specs.declared.program.Tail.TheVariants.{Barrier, Measure}
use Rattle.qz_circ.specs.declared.token.Kind.TheVariants.{Comma, LeftParen, RightParen, Minus, Star, Slash, Arrow}
use Rattle.qz_circ.specs.Circuit.{below}
use Rattle.qz_circ.specs.Registers.{RegisterParts, names_of}
use Rattle.qz_circ.specs.Programs.{ProgramParts}
use Rattle.qz_circ.specs.ProgramText as text
use Rattle.qz_circ.specs.ProgramText.{lowest_terms, text_at, placed_text, indexed_text, operand_text, qubit_texts, multiple_text, divisor_text, positive_angle_text, angle_text, program_text}
use Rattle.qz_qread.proofs.Pieces.{Piece, text_of, placed, indexed, operand, pieces_at, qubits, multiple, divisor, positive_angle, angle, register_line, gate_line, operands, tail_line, word, whole, pi, sign, blank, line_end, header_line, include_line, program_pieces}

-- ---- pieces end to end

pub text_of-append : (ps rs : List Piece) → text_of (ps ++ rs) ≡ text_of ps ++ text_of rs
text_of-append ps rs = flat_map-append (λ p. p.text) ps rs

-- where the pieces of each element have its text, those of all have the texts of all
texts_of_all : {A : Type 0} (pieces : A → List Piece) (written : A → List ℕ) → ((x : A) → text_of (pieces x) ≡ written x) → (xs : List A) → text_of (flat_map pieces xs) ≡ flat_map written xs
texts_of_all pieces written same [] = refl
texts_of_all pieces written same (x ∷ xs) =
    text_of-append (pieces x) (flat_map pieces xs) ∙ (λ i. same x i ++ texts_of_all pieces written same xs i)

-- ---- operands

of_indexed : (name : List ℕ) (n : ℕ) → text_of (indexed name n) ≡ indexed_text name n
unfolding indexed indexed_text
of_indexed name n = regrouped name (decimal n)
  where
    regrouped : (x y : List ℕ) → x ++ (91 ∷ (y ++ (93 ∷ []))) ≡ ((x ++ (91 ∷ [])) ++ y) ++ (93 ∷ [])
    regrouped x y = simp append_assoc

of_placed : (name : List ℕ) (place : Option ℕ) → text_of (placed name place) ≡ placed_text name place
of_placed name None = append-nil name
of_placed name (Some n) = of_indexed name n

of_operand : (registers : List RegisterParts) (a : Arg) → text_of (operand registers a) ≡ operand_text registers a
unfolding operand operand_text
of_operand registers a = of_placed (text_at (names_of registers) a.register) a.index

-- ---- qubits

-- the text of the pieces with a number is the text with that number
of_pieces_at : (qs : List (List Piece)) (k : ℕ) → text_of (pieces_at qs k) ≡ text_at (map text_of qs) k
unfolding pieces_at
of_pieces_at [] zero = refl
of_pieces_at [] (suc k) = refl
of_pieces_at (ps ∷ qs) zero = refl
of_pieces_at (ps ∷ qs) (suc k) = of_pieces_at qs k

of_places : (name : List ℕ) (places : List ℕ) → map text_of (map (indexed name) places) ≡ map (indexed_text name) places
of_places name [] = refl
of_places name (n ∷ places) = λ i. of_indexed name n i ∷ of_places name places i

of_qubits : (registers : List RegisterParts) → map text_of (qubits registers) ≡ qubit_texts registers
unfolding qubits qubit_texts
of_qubits [] = refl
of_qubits (r ∷ registers) =
    map-append text_of (map (indexed r.name) (below r.size)) (qubits registers) ∙ (λ i. of_places r.name (below r.size) i ++ of_qubits registers i)

of_qubit : (registers : List RegisterParts) (k : ℕ) → text_of (pieces_at (qubits registers) k) ≡ text_at (qubit_texts registers) k
of_qubit registers k = of_pieces_at (qubits registers) k ∙ ap (λ texts. text_at texts k) (of_qubits registers)

-- ---- angles

of_multiple : (numerator : ℕ) → text_of (multiple numerator) ≡ multiple_text numerator
unfolding multiple multiple_text
of_multiple numerator = by (numerator == 1)
  where
    by : (t : Bool) → text_of (cond t (pi ∷ []) (whole numerator ∷ sign Star (codes "*") ∷ pi ∷ [])) ≡ cond t (codes "pi") (decimal numerator ++ codes "*pi")
    by true = refl
    by false = refl

of_divisor : (denominator : ℕ) → text_of (divisor denominator) ≡ divisor_text denominator
unfolding divisor divisor_text
of_divisor denominator = by (denominator == 1)
  where
    by : (t : Bool) → text_of (cond t [] (sign Slash (codes "/") ∷ whole denominator ∷ [])) ≡ cond t [] (codes "/" ++ decimal denominator)
    by true = refl
    by false = ap (λ x. 47 ∷ x) (append-nil (decimal denominator))

of_positive_angle : (m : ℕ) → text_of (positive_angle m) ≡ positive_angle_text m
unfolding positive_angle positive_angle_text
of_positive_angle m =
    let fraction = lowest_terms 8 m in
    text_of-append (multiple fraction.0) (divisor fraction.1) ∙ (λ i. of_multiple fraction.0 i ++ of_divisor fraction.1 i)

of_angle : (k : ℕ) → text_of (angle k) ≡ angle_text k
unfolding angle angle_text
of_angle k = by (nat_lt 256 k)
  where
    by : (t : Bool) → text_of (cond t (sign Minus (codes "-") ∷ positive_angle (512 - k)) (positive_angle k)) ≡ cond t (codes "-" ++ positive_angle_text (512 - k)) (positive_angle_text k)
    by true = ap (λ x. 45 ∷ x) (of_positive_angle (512 - k))
    by false = of_positive_angle k

-- ---- lines

-- the end of a line behind a text
of_line : (ps : List Piece) (x : List ℕ) → text_of ps ≡ x → text_of (ps ++ line_end) ≡ (x ++ codes ";") ++ 10 ∷ []
of_line ps x same = text_of-append ps line_end ∙ ap (λ y. y ++ 59 ∷ 10 ∷ []) same ∙ sym (append_assoc x (59 ∷ []) (10 ∷ []))

of_register : (declaring : List ℕ) (r : RegisterParts) → text_of (register_line declaring r) ≡ text.register_line declaring r
unfolding register_line text.register_line
of_register declaring r =
    of_line (word declaring ∷ blank ∷ indexed r.name r.size) _
    (ap (λ x. declaring ++ (32 ∷ x)) (of_indexed r.name r.size) ∙ sym (append_assoc declaring (32 ∷ []) (indexed_text r.name r.size)))

of_gate : (registers : List RegisterParts) (g : Inst) → text_of (gate_line (qubits registers) g) ≡ text.gate_line (qubit_texts registers) g
unfolding gate_line text.gate_line
of_gate registers (H t) = of_line (word (codes "h") ∷ blank ∷ pieces_at (qubits registers) t) _ (ap (λ x. codes "h " ++ x) (of_qubit registers t))
of_gate registers (X t) = of_line (word (codes "x") ∷ blank ∷ pieces_at (qubits registers) t) _ (ap (λ x. codes "x " ++ x) (of_qubit registers t))
of_gate registers (Cx c t) =
    of_line (word (codes "cx") ∷ blank ∷ pieces_at (qubits registers) c ++ sign Comma (codes ",") ∷ pieces_at (qubits registers) t) _
    (text_of-append (word (codes "cx") ∷ blank ∷ pieces_at (qubits registers) c) (sign Comma (codes ",") ∷ pieces_at (qubits registers) t) ∙
    (λ i. (codes "cx " ++ of_qubit registers c i) ++ (44 ∷ of_qubit registers t i)) ∙
    sym (append_assoc (codes "cx " ++ text_at (qubit_texts registers) c) (44 ∷ []) (text_at (qubit_texts registers) t)))
of_gate registers (Rz t k) =
    of_line (word (codes "rz") ∷ sign LeftParen (codes "(") ∷ angle k ++ sign RightParen (codes ")") ∷ blank ∷ pieces_at (qubits registers) t) _
    (text_of-append (word (codes "rz") ∷ sign LeftParen (codes "(") ∷ angle k) (sign RightParen (codes ")") ∷ blank ∷ pieces_at (qubits registers) t) ∙
    (λ i. (codes "rz(" ++ of_angle k i) ++ (41 ∷ 32 ∷ of_qubit registers t i)) ∙
    sym (append_assoc (codes "rz(" ++ angle_text k) (codes ") ") (text_at (qubit_texts registers) t)))

of_operands : (registers : List RegisterParts) (args : List Arg) → text_of (operands registers args) ≡ join_with_byte 44 (map (operand_text registers) args)
unfolding operands
of_operands registers [] = refl
of_operands registers (a ∷ []) = of_operand registers a
of_operands registers (a ∷ b ∷ others) =
    text_of-append (operand registers a) (sign Comma (codes ",") ∷ operands registers (b ∷ others)) ∙
    (λ i. of_operand registers a i ++ (44 ∷ of_operands registers (b ∷ others) i))

of_tail : (qregs cregs : List RegisterParts) (t : Tail) → text_of (tail_line qregs cregs t) ≡ text.tail_line qregs cregs t
unfolding tail_line text.tail_line
of_tail qregs cregs (Barrier args) = of_line (word (codes "barrier") ∷ blank ∷ operands qregs args) _ (ap (λ x. codes "barrier " ++ x) (of_operands qregs args))
of_tail qregs cregs (Measure from to) =
    of_line (word (codes "measure") ∷ blank ∷ operand qregs from ++ blank ∷ sign Arrow (codes "->") ∷ blank ∷ operand cregs to) _
    (text_of-append (word (codes "measure") ∷ blank ∷ operand qregs from) (blank ∷ sign Arrow (codes "->") ∷ blank ∷ operand cregs to) ∙
    (λ i. (codes "measure " ++ of_operand qregs from i) ++ (codes " -> " ++ of_operand cregs to i)) ∙
    sym (append_assoc (codes "measure " ++ operand_text qregs from) (codes " -> ") (operand_text cregs to)))

-- ---- programs

-- the pieces of more elements behind pieces
of_more : {A : Type 0} (before : List Piece) (x : List ℕ) (pieces : A → List Piece) (written : A → List ℕ) → text_of before ≡ x → ((a : A) → text_of (pieces a) ≡ written a) → (xs : List A) → text_of (before ++ flat_map pieces xs) ≡ x ++ flat_map written xs
of_more before x pieces written first same xs = text_of-append before (flat_map pieces xs) ∙ (λ i. first i ++ texts_of_all pieces written same xs i)

-- the text of a program's pieces is its text
pub text_of_program : (p : ProgramParts) → text_of (program_pieces p) ≡ program_text p
unfolding program_pieces program_text header_line include_line
text_of_program p =
    let head = header_line ++ include_line in
    let with_qregs = head ++ flat_map (register_line (codes "qreg")) p.qregs in
    let with_cregs = with_qregs ++ flat_map (register_line (codes "creg")) p.cregs in
    let with_gates = with_cregs ++ flat_map (gate_line (qubits p.qregs)) p.gates in
    let first = of_more head _ (register_line (codes "qreg")) (text.register_line (codes "qreg")) refl (of_register (codes "qreg")) p.qregs in
    let second = of_more with_qregs _ (register_line (codes "creg")) (text.register_line (codes "creg")) first (of_register (codes "creg")) p.cregs in
    let third = of_more with_cregs _ (gate_line (qubits p.qregs)) (text.gate_line (qubit_texts p.qregs)) second (of_gate p.qregs) p.gates in
    of_more with_gates _ (tail_line p.qregs p.cregs) (text.tail_line p.qregs p.cregs) third (of_tail p.qregs p.cregs) p.tail
