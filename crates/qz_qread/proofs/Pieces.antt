-- Texts in pieces: tokens and the gaps between them. The canonical text of a program as pieces.
use Rattle.std.proofs.Common.{ℕ, zero, suc, ◌+◌, ◌-◌, ◌==◌, nat_lt, if◌then◌else◌, List, [], ◌∷◌, ◌++◌, length, map, flat_map, codes, Option, Some, None}
use Rattle.std.specs.Fmt.{decimal}
use Rattle.qz_circ.specs.declared.circuit.Inst.{Inst}
use Rattle.qz_circ.specs.declared.circuit.Inst.TheVariants.{H, X, Cx, Rz}
use Rattle.qz_circ.specs.declared.program.Arg.{Arg}
use Rattle.qz_circ.specs.declared.program.Tail.{Tail}
use Rattle.qz_circ.specs.declared.program.Tail.TheVariants.{Barrier, Measure}
use Rattle.qz_circ.specs.declared.token.Kind.{Kind}
use Rattle.qz_circ.specs.declared.token.Kind.TheVariants.{Word, Pi, Whole, Real, Text, Semicolon, Comma, LeftParen, RightParen, LeftBracket, RightBracket, Minus, Star, Slash, Arrow}
use Rattle.qz_circ.specs.Lexemes.{Lexeme}
use Rattle.qz_circ.specs.Registers.{RegisterParts, names_of}
use Rattle.qz_circ.specs.Circuit.{below}
use Rattle.qz_circ.specs.Programs.{ProgramParts}
use Rattle.qz_circ.specs.ProgramText.{lowest_terms, text_at}

-- a token of this kind, or a gap; and its bytes
pub record Piece : Type 0 where
  pub kind : Option Kind
  pub text : List ℕ

-- the text of pieces
abbrev pub text_of : List Piece → List ℕ
text_of ps = flat_map (λ p. p.text) ps

-- the tokens with the one before them that begins at a place, where it is no gap
abbrev pub with_piece : ℕ → Option Kind → List ℕ → List Lexeme → List Lexeme
with_piece place (Some kind) text ls = record { token = record { kind = kind; start = place; end = place + length text }; text = text } ∷ ls
with_piece place None text ls = ls

-- the tokens of pieces that begin at a place
unfoldable pub lexemes_at : ℕ → List Piece → List Lexeme
lexemes_at place [] = []
lexemes_at place (p ∷ ps) = with_piece place p.kind p.text (lexemes_at (place + length p.text) ps)

-- ---- single pieces

abbrev pub word : List ℕ → Piece
word text = record { kind = Some Word; text = text }

abbrev pub whole : ℕ → Piece
whole n = record { kind = Some (Whole n); text = decimal n }

abbrev pub pi : Piece
pi = record { kind = Some Pi; text = codes "pi" }

abbrev pub sign : Kind → List ℕ → Piece
sign kind text = record { kind = Some kind; text = text }

abbrev pub blank : Piece
blank = record { kind = None; text = codes " " }

-- the semicolon at the end of a line, and the line feed after it
abbrev pub line_end : List Piece
line_end = sign Semicolon (codes ";") ∷ record { kind = None; text = 10 ∷ [] } ∷ []

-- ---- operands and angles

-- a name and a number in brackets
unfoldable pub indexed : List ℕ → ℕ → List Piece
indexed name n = word name ∷ sign LeftBracket (codes "[") ∷ whole n ∷ sign RightBracket (codes "]") ∷ []

-- a name alone, or with its place
abbrev pub placed : List ℕ → Option ℕ → List Piece
placed name None = word name ∷ []
placed name (Some place) = indexed name place

-- an operand of a barrier or a measurement, which names one of these registers
unfoldable pub operand : List RegisterParts → Arg → List Piece
operand registers a = placed (text_at (names_of registers) a.register) a.index

-- the pieces with this number, from 0 on
unfoldable pub pieces_at : List (List Piece) → ℕ → List Piece
pieces_at [] k = []
pieces_at (ps ∷ others) zero = ps
pieces_at (ps ∷ others) (suc k) = pieces_at others k

-- each qubit in the order of the numbers, by its register's name and its place there
unfoldable pub qubits : List RegisterParts → List (List Piece)
qubits registers = flat_map (λ r. map (indexed r.name) (below r.size)) registers

-- pi where the numerator is 1, else the numerator, a star and pi
unfoldable pub multiple : ℕ → List Piece
multiple numerator = if numerator == 1 then pi ∷ [] else whole numerator ∷ sign Star (codes "*") ∷ pi ∷ []

-- a slash and the denominator; nothing where it is 1
unfoldable pub divisor : ℕ → List Piece
divisor denominator = if denominator == 1 then [] else sign Slash (codes "/") ∷ whole denominator ∷ []

unfoldable pub positive_angle : ℕ → List Piece
positive_angle m = multiple (lowest_terms 8 m).0 ++ divisor (lowest_terms 8 m).1

-- the angle with a number from 1 to 511
unfoldable pub angle : ℕ → List Piece
angle k = if nat_lt 256 k then sign Minus (codes "-") ∷ positive_angle (512 - k) else positive_angle k

-- ---- lines

-- the declaration of a register by a word
unfoldable pub register_line : List ℕ → RegisterParts → List Piece
register_line declaring r = word declaring ∷ blank ∷ indexed r.name r.size ++ line_end

-- the line of a gate, where the qubits have these pieces
unfoldable pub gate_line : List (List Piece) → Inst → List Piece
gate_line qs (H t) = word (codes "h") ∷ blank ∷ pieces_at qs t ++ line_end
gate_line qs (X t) = word (codes "x") ∷ blank ∷ pieces_at qs t ++ line_end
gate_line qs (Cx c t) = word (codes "cx") ∷ blank ∷ pieces_at qs c ++ sign Comma (codes ",") ∷ pieces_at qs t ++ line_end
gate_line qs (Rz t k) = word (codes "rz") ∷ sign LeftParen (codes "(") ∷ angle k ++ sign RightParen (codes ")") ∷ blank ∷ pieces_at qs t ++ line_end

-- operands with commas between them
unfoldable pub operands : List RegisterParts → List Arg → List Piece
operands registers [] = []
operands registers (a ∷ []) = operand registers a
operands registers (a ∷ b ∷ others) = operand registers a ++ sign Comma (codes ",") ∷ operands registers (b ∷ others)

-- the line of a barrier or of a measurement
unfoldable pub tail_line : List RegisterParts → List RegisterParts → Tail → List Piece
tail_line qregs cregs (Barrier args) = word (codes "barrier") ∷ blank ∷ operands qregs args ++ line_end
tail_line qregs cregs (Measure from to) = word (codes "measure") ∷ blank ∷ operand qregs from ++ blank ∷ sign Arrow (codes "->") ∷ blank ∷ operand cregs to ++ line_end

-- the two lines at the head of every program
unfoldable pub header_line : List Piece
header_line = word (codes "OPENQASM") ∷ blank ∷ record { kind = Some Real; text = codes "2.0" } ∷ line_end

unfoldable pub include_line : List Piece
include_line = word (codes "include") ∷ blank ∷ record { kind = Some Text; text = codes "\"qelib1.inc\"" } ∷ line_end

-- the text of a program, in pieces
unfoldable pub program_pieces : ProgramParts → List Piece
program_pieces p =
    header_line ++ include_line ++
    flat_map (register_line (codes "qreg")) p.qregs ++
    flat_map (register_line (codes "creg")) p.cregs ++
    flat_map (gate_line (qubits p.qregs)) p.gates ++
    flat_map (tail_line p.qregs p.cregs) p.tail
