-- The lines of barriers and measurements: each adds its statement to the program so far.
use Rattle.std.proofs.Common.{◌≡◌, ℕ, ◌+◌, ◌≤◌, true, List, [], ◌∷◌, ◌++◌, length, codes, Option, Some, None, refl, append_assoc, arith}
use Rattle.std.specs.Prelude.{Ok}
use Rattle.std.specs.Bool.{nat_eq}
use Rattle.std.specs.List.{AllByRecursion}
use Rattle.std.specs.Option.{option_eq}
use Rattle.std.proofs.lemmas.Bool.Decides.{nat_tests}
use Rattle.qz_circ.specs.declared.program.Arg.{Arg}
use Rattle.qz_circ.specs.declared.program.Tail.{Tail}
use Rattle.qz_circ.specs.declared.program.Tail.TheVariants.{Barrier, Measure}
use Rattle.qz_circ.specs.declared.token.Kind.TheVariants.{Arrow}
use Rattle.qz_circ.specs.Programs.{ProgramParts}
use Rattle.qz_circ.specs.ValidPrograms.{IsOperand, AreAlike, IsMeasurement, IsStatement}
use Rattle.qz_circ.specs.Forms.{one, measure_form}
use Rattle.qz_circ.specs.Grammar.{size_unless, with_barrier, with_measurement, with_words, with_statement}
use Rattle.qz_circ.proofs.RisingLists.{each-append}
use Rattle.qz_qread.proofs.Pieces.{Piece, lexemes_at, line_end, word, blank, sign, operand, operands, tail_line}
use Rattle.qz_qread.proofs.LinesRead.{Reads}
use Rattle.qz_qread.proofs.OperandPieces.{HaveNames, operand_read, operands_read, operand_inside, operands_inside}

-- ---- barriers

barrier_read : (len : ℕ) (q : ProgramParts) (args : List Arg) (place : ℕ) → HaveNames q.qregs → 1 ≤ length args → AllByRecursion (IsOperand q.qregs) args → with_barrier len q (lexemes_at place (operands q.qregs args ++ line_end)) ≡ Ok (record q { tail = q.tail ++ Barrier args ∷ [] })
unfolding with_barrier
barrier_read len q [] place names some are = absurd (omega arith)
barrier_read len q (a ∷ others) place names some are =
    let read = operands_read len q.qregs a others place names are in
    rw (read.count, read.reads, read.means) refl

-- ---- measurements

alike_sizes : (m n : ℕ) (i j : Option ℕ) → AreAlike m n i j → option_eq nat_eq (size_unless m i) (size_unless n j) ≡ true
alike_sizes m n None None same = grind (arith, nat_tests)
alike_sizes m n None (Some j) same = absurd same
alike_sizes m n (Some i) None same = absurd same
alike_sizes m n (Some i) (Some j) same = refl

measurement_read : (len : ℕ) (q : ProgramParts) (from to : Arg) (place : ℕ) → HaveNames q.qregs → HaveNames q.cregs → IsMeasurement q.qregs q.cregs from to → with_measurement len q (lexemes_at place ((operand q.qregs from ++ blank ∷ sign Arrow (codes "->") ∷ blank ∷ operand q.cregs to) ++ line_end)) ≡ Ok (record q { tail = q.tail ++ Measure from to ∷ [] })
unfolding with_measurement measure_form lexemes_at one
measurement_read len q from to place qubits bits is =
    let behind : List Piece = blank ∷ sign Arrow (codes "->") ∷ blank ∷ operand q.cregs to in
    let first = operand_read len q.qregs from place (behind ++ line_end) qubits is.source (λ place. refl) in
    let second = operand_read len q.cregs to (first.after + 1 + 2 + 1) line_end bits is.target (λ place. refl) in
    let alike = alike_sizes _ _ from.index to.index is.alike in
    rw (append_assoc (operand q.qregs from) behind line_end, first.reads, second.reads, first.means, second.means, alike) refl

-- ---- the lines

-- each barrier and each measurement of a program has a line, which adds it
pub tail_line_reads : (len : ℕ) (q : ProgramParts) (t : Tail) → HaveNames q.qregs → HaveNames q.cregs → IsStatement q.qregs q.cregs t → Reads len q (tail_line q.qregs q.cregs t) (record q { tail = q.tail ++ t ∷ [] })
unfolding tail_line lexemes_at with_statement with_words
tail_line_reads len q (Barrier args) qubits bits (some, are) = record {
  body = word (codes "barrier") ∷ blank ∷ operands q.qregs args;
  ends = refl;
  inside = (refl, (refl, operands_inside q.qregs args));
  read = λ place. barrier_read len q args _ qubits some are;
}
tail_line_reads len q (Measure from to) qubits bits is = record {
  body = word (codes "measure") ∷ blank ∷ operand q.qregs from ++ blank ∷ sign Arrow (codes "->") ∷ blank ∷ operand q.cregs to;
  ends = refl;
  inside = (refl, (refl, each-append _ (operand q.qregs from) _ (operand_inside q.qregs from) (refl, (refl, (refl, operand_inside q.cregs to)))));
  read = λ place. measurement_read len q from to _ qubits bits is;
}
