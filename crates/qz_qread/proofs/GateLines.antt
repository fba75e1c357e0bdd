-- The lines of gates: each adds its gate to the program so far.
use Rattle.std.proofs.Common.{◌≡◌, ◌≢◌, ℕ, zero, suc, ◌+◌, ◌<◌, ◌≤◌, ◌==◌, nat_lt, true, false, List, [], ◌∷◌, ◌++◌, length, map, codes, Some, refl, ap, ◌∙◌, append_assoc, append-nil, ne_eqb, arith}
use Rattle.std.specs.Prelude.{Ok}
use Rattle.std.proofs.lemmas.Bool.Decides.{nat_tests}
use Rattle.qz_circ.specs.declared.circuit.Inst.{Inst}
use Rattle.qz_circ.specs.declared.circuit.Inst.TheVariants.{H, X, Cx, Rz}
use Rattle.qz_circ.specs.declared.program.Arg.{Arg}
use Rattle.qz_circ.specs.declared.fault.QasmFault.TheVariants as fault
use Rattle.qz_circ.specs.declared.token.Kind.TheVariants.{Word, Comma, LeftParen, RightParen}
use Rattle.qz_circ.specs.declared.gate_name.GateName.{GateName}
use Rattle.qz_circ.specs.declared.gate_name.GateName.TheVariants as name
use Rattle.qz_circ.specs.FirstFault.{fault_as}
use Rattle.qz_circ.specs.Registers.{RegisterParts, total_size}
use Rattle.qz_circ.specs.Programs.{ProgramParts}
use Rattle.qz_circ.specs.ProgramCircuits.{IsProgramGate}
use Rattle.qz_circ.specs.GateNames.{gate_named, takes_angle, more_operands, rotation, read_as}
use Rattle.qz_circ.specs.Lexemes.{Lexeme, kind_of}
use Rattle.qz_circ.specs.Forms.{begins, is_left_paren, Operand, operands_form, GateForm, angle_form, no_angle_form, gate_form}
use Rattle.qz_circ.specs.Grammar.{args_of, repetitions, other_size, qubit_at, same_qubit, applied, checked_gates, angle_number, with_gates, with_gate, unsupported_words, with_words, with_statement}
use Rattle.qz_circ.specs.Angle.{angle_of}
use Rattle.qz_circ.proofs.RisingLists.{each-append}
use Rattle.qz_qread.proofs.Pieces.{Piece, text_of, lexemes_at, line_end, word, blank, sign, angle, pieces_at, qubits, operand, operands, gate_line}
use Rattle.qz_qread.proofs.LinesRead.{AreInside, Reads, lexemes_at-append}
use Rattle.qz_qread.proofs.AnglePieces.{angle_means, angle_read, angle_inside}
use Rattle.qz_qread.proofs.OperandPieces.{HaveNames, token_at, operands_read, operand_inside}
use Rattle.qz_qread.proofs.QubitPieces.{single, qubit_found}

-- ---- what a gate's parts are read as

-- the program so far can take one gate more
pub record HasRoom (q : ProgramParts) : Type 0 where
  pub names : HaveNames q.qregs
  pub first : (length q.tail == 0) ≡ true
  pub few : length q.gates < 20000

-- a gate of these parts is added
gate_read : (len : ℕ) (q : ProgramParts) (word : Lexeme) (ls : List Lexeme) (gate : GateName) (form : GateForm) (k : ℕ) (args : List Arg) (g : Inst) → HasRoom q → gate_named word.text ≡ Some gate → gate_form gate len ls ≡ Ok form → angle_number gate form.angle ≡ Ok k → args_of q.qregs form.operands ≡ Ok args → checked_gates q.qregs gate k form.operands args ≡ Ok (g ∷ []) → with_gate len q word ls ≡ Ok (record q { gates = q.gates ++ g ∷ [] })
unfolding with_gate with_gates
gate_read len q word ls gate form k args g room named is_form is_angle are_args is_gate =
    let few = room.few in
    let test : nat_lt 20000 (length q.gates + 1) ≡ false = grind (arith, nat_tests) in
    rw (named, room.first, is_form, is_angle, are_args, is_gate, test) refl

-- a gate without an angle
plain_form : (len : ℕ) (gate : GateName) (ls : List Lexeme) (forms : List Operand) → takes_angle gate ≡ false → begins is_left_paren ls ≡ false → operands_form (more_operands gate) len ls ≡ Ok forms → gate_form gate len ls ≡ Ok (record { angle = []; operands = forms })
unfolding gate_form no_angle_form
plain_form len gate ls forms plain other read = rw (plain, other, read) refl

-- a gate on one place is applied once
checked_single : (registers : List RegisterParts) (gate : GateName) (k : ℕ) (forms : List Operand) (r i : ℕ) → checked_gates registers gate k forms (single r i ∷ []) ≡ Ok (read_as gate k (qubit_at registers 0 (single r i)) 0 0)
unfolding checked_gates other_size same_qubit repetitions applied
checked_single registers gate k forms r i = ap (λ gates. Ok gates) (append-nil _)

-- and so is a gate on two different ones
checked_pair : (registers : List RegisterParts) (gate : GateName) (k : ℕ) (forms : List Operand) (r i s j : ℕ) → (qubit_at registers 0 (single r i) == qubit_at registers 0 (single s j)) ≡ false → checked_gates registers gate k forms (single r i ∷ single s j ∷ []) ≡ Ok (read_as gate k (qubit_at registers 0 (single r i)) (qubit_at registers 0 (single s j)) 0)
unfolding checked_gates other_size same_qubit repetitions applied
checked_pair registers gate k forms r i s j other = rw (other, append-nil) refl

-- ---- the gate of a line

-- a gate on one qubit, without an angle
one_qubit : (len : ℕ) (q : ProgramParts) (word : Lexeme) (gate : GateName) (g : Inst) (t after : ℕ) → HasRoom q → t < total_size q.qregs → gate_named word.text ≡ Some gate → takes_angle gate ≡ false → angle_number gate [] ≡ Ok 0 → more_operands gate ≡ 0 → read_as gate 0 t 0 0 ≡ g ∷ [] → with_gate len q word (lexemes_at after (pieces_at (qubits q.qregs) t ++ line_end)) ≡ Ok (record q { gates = q.gates ++ g ∷ [] })
unfolding operands
one_qubit len q word gate g t after room within named plain no_angle one read =
    let at = qubit_found q.qregs t within in
    let are = operands_read len q.qregs (single at.register at.place) [] after room.names (at.is, tt) in
    let form = plain_form len gate _ are.forms plain are.first (rw one are.reads) in
    let applied_once = checked_single q.qregs gate 0 are.forms at.register at.place ∙ rw (at.number, read) refl in
    rw at.pieces (gate_read len q word _ gate (record { angle = []; operands = are.forms }) 0 _ g room named form no_angle are.means applied_once)

-- a controlled gate
two_qubits : (len : ℕ) (q : ProgramParts) (word : Lexeme) (c t after : ℕ) → HasRoom q → c < total_size q.qregs → t < total_size q.qregs → c ≢ t → gate_named word.text ≡ Some name.Cx → with_gate len q word (lexemes_at after ((pieces_at (qubits q.qregs) c ++ sign Comma (codes ",") ∷ pieces_at (qubits q.qregs) t) ++ line_end)) ≡ Ok (record q { gates = q.gates ++ Cx c t ∷ [] })
unfolding operands angle_number read_as
two_qubits len q word c t after room control target differ named =
    let a = qubit_found q.qregs c control in
    let b = qubit_found q.qregs t target in
    let are = operands_read len q.qregs (single a.register a.place) (single b.register b.place ∷ []) after room.names (a.is, (b.is, tt)) in
    let form = plain_form len name.Cx _ are.forms refl are.first are.reads in
    let other : (qubit_at q.qregs 0 (single a.register a.place) == qubit_at q.qregs 0 (single b.register b.place)) ≡ false = rw (a.number, b.number) (ne_eqb c t differ) in
    let applied_once = checked_pair q.qregs name.Cx 0 are.forms a.register a.place b.register b.place other ∙ rw (a.number, b.number) refl in
    rw (a.pieces, b.pieces) (gate_read len q word _ name.Cx (record { angle = []; operands = are.forms }) 0 _ (Cx c t) room named form refl are.means applied_once)

-- an angle in parentheses and one operand
rotation_form : (len : ℕ) (ls : List Lexeme) (angle : List Lexeme) (rest : List Lexeme) (forms : List Operand) → angle_form len ls ≡ Ok (angle, rest) → operands_form 0 len rest ≡ Ok forms → gate_form name.Rotation len ls ≡ Ok (record { angle = angle; operands = forms })
unfolding gate_form
rotation_form len ls angle rest forms is_angle read = rw (is_angle, read) refl

rotation_is : (t k : ℕ) → 1 ≤ k → rotation t k ≡ Rz t k ∷ []
rotation_is t zero above = absurd (omega arith)
rotation_is t (suc k) above = refl

-- a rotation by an angle in parentheses, with these places
rotation_read : (len : ℕ) (q : ProgramParts) (word : Lexeme) (t k : ℕ) (place after : ℕ) (opening closing : Lexeme) → HasRoom q → t < total_size q.qregs → 1 ≤ k → k < 512 → gate_named word.text ≡ Some name.Rotation → is_left_paren (kind_of opening) ≡ true → kind_of closing ≡ RightParen → with_gate len q word (opening ∷ (lexemes_at place (angle k) ++ closing ∷ lexemes_at after (pieces_at (qubits q.qregs) t ++ line_end))) ≡ Ok (record q { gates = q.gates ++ Rz t k ∷ [] })
unfolding operands angle_number read_as
rotation_read len q word t k place after opening closing room within above below named opens closes =
    let at = qubit_found q.qregs t within in
    let are = operands_read len q.qregs (single at.register at.place) [] after room.names (at.is, tt) in
    let is_angle = angle_read len place k opening closing (lexemes_at after (operand q.qregs (single at.register at.place) ++ line_end)) above below opens closes in
    let form = rotation_form len _ (lexemes_at place (angle k)) _ are.forms is_angle are.reads in
    let means : fault_as fault.Angle (angle_of (map (λ l. l.token) (lexemes_at place (angle k)))) ≡ Ok k = rw (angle_means place k above below) refl in
    let applied_once = checked_single q.qregs name.Rotation k are.forms at.register at.place ∙ rw (at.number, rotation_is t k above) refl in
    rw at.pieces (gate_read len q word _ name.Rotation (record { angle = lexemes_at place (angle k); operands = are.forms }) k _ (Rz t k) room named form means are.means applied_once)

-- ---- the lines

qubit_inside : (registers : List RegisterParts) (t : ℕ) → t < total_size registers → AreInside (pieces_at (qubits registers) t)
qubit_inside registers t within =
    let at = qubit_found registers t within in
    rw at.pieces (operand_inside registers (single at.register at.place))

-- the line of a rotation
rotation_line : (len : ℕ) (q : ProgramParts) (t k place : ℕ) → HasRoom q → t < total_size q.qregs → 1 ≤ k → k < 512 → with_statement len q (lexemes_at place (gate_line (qubits q.qregs) (Rz t k))) ≡ Ok (record q { gates = q.gates ++ Rz t k ∷ [] })
unfolding gate_line lexemes_at with_statement with_words unsupported_words gate_named
rotation_line len q t k place room within above below =
    let qubit = pieces_at (qubits q.qregs) t in
    let behind : List Piece = sign RightParen (codes ")") ∷ blank ∷ qubit in
    rw (append_assoc (angle k) behind line_end, lexemes_at-append (place + 2 + 1) (angle k) (behind ++ line_end))
    (rotation_read len q (token_at place Word (codes "rz")) t k (place + 2 + 1) _ (token_at (place + 2) LeftParen (codes "(")) (token_at (place + 2 + 1 + length (text_of (angle k))) RightParen (codes ")")) room within above below refl refl refl)

-- each gate of a program has a line, which adds it
pub gate_line_reads : (len : ℕ) (q : ProgramParts) (g : Inst) → HasRoom q → IsProgramGate (total_size q.qregs) g → Reads len q (gate_line (qubits q.qregs) g) (record q { gates = q.gates ++ g ∷ [] })
unfolding gate_line lexemes_at with_statement with_words unsupported_words gate_named angle_number read_as
gate_line_reads len q (H t) room within = record {
  body = word (codes "h") ∷ blank ∷ pieces_at (qubits q.qregs) t;
  ends = refl;
  inside = (refl, (refl, qubit_inside q.qregs t within));
  read = λ place. one_qubit len q (token_at place Word (codes "h")) name.H (H t) t _ room within refl refl refl refl refl;
}
gate_line_reads len q (X t) room within = record {
  body = word (codes "x") ∷ blank ∷ pieces_at (qubits q.qregs) t;
  ends = refl;
  inside = (refl, (refl, qubit_inside q.qregs t within));
  read = λ place. one_qubit len q (token_at place Word (codes "x")) name.X (X t) t _ room within refl refl refl refl refl;
}
gate_line_reads len q (Cx c t) room (control, target, differ) = record {
  body = word (codes "cx") ∷ blank ∷ pieces_at (qubits q.qregs) c ++ sign Comma (codes ",") ∷ pieces_at (qubits q.qregs) t;
  ends = refl;
  inside = (refl, (refl, each-append _ (pieces_at (qubits q.qregs) c) _ (qubit_inside q.qregs c control) (refl, qubit_inside q.qregs t target)));
  read = λ place. two_qubits len q (token_at place Word (codes "cx")) c t _ room control target differ refl;
}
gate_line_reads len q (Rz t k) room (within, above, below) = record {
  body = word (codes "rz") ∷ sign LeftParen (codes "(") ∷ angle k ++ sign RightParen (codes ")") ∷ blank ∷ pieces_at (qubits q.qregs) t;
  ends = refl;
  inside = (refl, (refl, each-append _ (angle k) _ (angle_inside k) (refl, (refl, qubit_inside q.qregs t within))));
  read = λ place. rotation_line len q t k place room within above below;
}
