-- What the forms of statements give.
use Rattle.std.proofs.Common.{◌≡◌, ℕ, zero, suc, ◌+◌, ◌-◌, ◌<◌, Bool, true, false, not, arith, List, [], ◌∷◌, length, refl, ap, subst, ◌==◌}
use Rattle.qz_circ.specs.declared.token.Kind.{Kind}
use Rattle.qz_circ.specs.declared.gate_name.GateName.{GateName}
use Rattle.qz_circ.specs.GateNames.{takes_angle, more_operands}
use Rattle.qz_circ.specs.Lexemes.{Lexeme, kind_of, is_semicolon}
use Rattle.qz_circ.specs.Forms.{one, token, begins, is_number, is_word, is_whole, is_comma, is_left_paren, is_right_paren, is_left_bracket, is_right_bracket, is_arrow, is_free_name, is_size, header_form, Declaration, declaration_form, index_form, operand_form, more_operands_form, operands_form, measure_form, enclosed, angle_form, no_angle_form, gate_form}
use Rattle.std.specs.Prelude.{Ok}
use Rattle.qz_circ.specs.Programs.{ProgramParts}
use Rattle.qz_circ.specs.Forms.{GateForm}
use Rattle.qz_circ.specs.Grammar.{ordered_gate_form}
use Rattle.qz_qread.proofs.Readings.{IsOfText, Reads, Anything, value_met, done, refused, weaker, next, choice, misfits}
use Rattle.qz_qread.specs.Spelled.{IsSpelled, AreSpelled}

-- ---- single tokens

-- the first token passes the test, and the others are left
one_read : (accepts : Lexeme → Bool) (len : ℕ) (ls : List Lexeme) → Reads (λ x. (accepts x.0 ≡ true) × (ls ≡ x.0 ∷ x.1)) (one accepts len ls)
unfolding one
one_read accepts len [] = misfits len []
one_read accepts len (l ∷ ls) = choice (accepts l) (λ h. done (h, refl)) (λ _. misfits len (l ∷ ls))

-- such a token, of which nothing more is said
pub token_read : (accepts : Kind → Bool) (len : ℕ) (ls : List Lexeme) → Reads Anything (token accepts len ls)
token_read accepts len ls = weaker (one_read (λ l. accepts (kind_of l)) len ls) (λ x h. tt)

-- ---- header and declarations

pub header_read : (len : ℕ) (ls : List Lexeme) → Reads Anything (header_form len ls)
unfolding header_form
header_read len ls =
    next (one_read _ len ls) (λ word _.
    next (token_read is_number len word.1) (λ version _.
    next (token_read is_semicolon len version.1) (λ end _. done tt)))

-- the name may be given and is spelled as a word, and the size isn't 0
pub record IsDeclaration (d : Declaration) : Type 0 where
  pub free : is_free_name d.name ≡ true
  pub spelled : IsSpelled d.name
  pub size : is_size d.size ≡ true

pub declaration_read : (len : ℕ) (ls : List Lexeme) → AreSpelled ls → Reads IsDeclaration (declaration_form len ls)
unfolding declaration_form
declaration_read len ls spelled =
    next (one_read is_free_name len ls) (λ name n.
    next (token_read is_left_bracket len name.1) (λ open_bracket _.
    next (one_read is_size len open_bracket.1) (λ size s.
    next (token_read is_right_bracket len size.1) (λ close_bracket _.
    next (token_read is_semicolon len close_bracket.1) (λ end _.
    done (record { free = n.0; spelled = (subst AreSpelled n.1 spelled).0; size = s.0 }))))))

-- ---- operands

index_read : (len : ℕ) (ls : List Lexeme) → Reads Anything (index_form len ls)
unfolding index_form
index_read len ls =
    choice (begins is_left_bracket ls)
    (λ _. next (token_read is_left_bracket len ls) (λ open_bracket _.
    next (token_read is_whole len open_bracket.1) (λ number _.
    next (token_read is_right_bracket len number.1) (λ close_bracket _. done tt))))
    (λ _. done tt)

operand_read : (len : ℕ) (ls : List Lexeme) → Reads Anything (operand_form len ls)
unfolding operand_form
operand_read len ls =
    next (token_read is_word len ls) (λ word _.
    next (index_read len word.1) (λ index _. done tt))

more_operands_read : (n len : ℕ) (ls : List Lexeme) → Reads (λ x. length x.0 ≡ n) (more_operands_form n len ls)
unfolding more_operands_form
more_operands_read zero len ls = done refl
more_operands_read (suc n) len ls =
    next (token_read is_comma len ls) (λ comma _.
    next (operand_read len comma.1) (λ operand _.
    next (more_operands_read n len operand.1) (λ others h. done (ap (λ k. suc k) h))))

-- there are as many operands as were asked for
pub operands_read : (n len : ℕ) (ls : List Lexeme) → Reads (λ os. length os ≡ suc n) (operands_form n len ls)
unfolding operands_form
operands_read n len ls =
    next (operand_read len ls) (λ first _.
    next (more_operands_read n len first.1) (λ others h.
    next (token_read is_semicolon len others.1) (λ end _. done (ap (λ k. suc k) h))))

pub measure_read : (len : ℕ) (ls : List Lexeme) → Reads Anything (measure_form len ls)
unfolding measure_form
measure_read len ls =
    next (operand_read len ls) (λ from _.
    next (token_read is_arrow len from.1) (λ arrow _.
    next (operand_read len arrow.1) (λ to _.
    next (token_read is_semicolon len to.1) (λ end _. done tt))))

-- ---- gates

enclosed_read : (more_open len : ℕ) (ls : List Lexeme) → Reads Anything (enclosed more_open len ls)
unfolding enclosed
enclosed_read more_open len [] = misfits len []
enclosed_read more_open len (l ∷ ls) =
    choice (is_semicolon (kind_of l)) (λ _. misfits len (l ∷ ls))
    (λ _. choice (is_left_paren (kind_of l)) (λ _. next (enclosed_read (more_open + 1) len ls) (λ x _. done tt))
    (λ _. choice (not (is_right_paren (kind_of l))) (λ _. next (enclosed_read more_open len ls) (λ x _. done tt))
    (λ _. choice (more_open == 0) (λ _. done tt)
    (λ _. next (enclosed_read (more_open - 1) len ls) (λ x _. done tt)))))

angle_read : (len : ℕ) (ls : List Lexeme) → Reads Anything (angle_form len ls)
unfolding angle_form
angle_read len ls =
    next (token_read is_left_paren len ls) (λ open_paren _.
    choice (begins is_right_paren open_paren.1) (λ _. misfits len open_paren.1) (λ _. enclosed_read 0 len open_paren.1))

no_angle_read : (len : ℕ) (ls : List Lexeme) → Reads Anything (no_angle_form len ls)
unfolding no_angle_form
no_angle_read len ls =
    choice (begins is_left_paren ls)
    (λ _. next (token_read is_left_paren len ls) (λ open_paren _.
    next (token_read is_right_paren len open_paren.1) (λ close_paren _. done tt)))
    (λ _. done tt)

-- a gate has as many operands as it takes
pub gate_read : (gate : GateName) (len : ℕ) (ls : List Lexeme) → Reads (λ form. length form.operands ≡ suc (more_operands gate)) (gate_form gate len ls)
unfolding gate_form
gate_read gate len ls =
    next (choice (takes_angle gate) (λ _. angle_read len ls) (λ _. no_angle_read len ls)) (λ angle _.
    next (operands_read (more_operands gate) len angle.1) (λ operands h. done h))

-- ---- an angle has some token

enclosed_some : (more_open len : ℕ) (ls : List Lexeme) → begins is_right_paren ls ≡ false → Reads (λ x. 0 < length x.0) (enclosed more_open len ls)
unfolding enclosed
enclosed_some more_open len [] other = misfits len []
enclosed_some more_open len (l ∷ ls) other =
    choice (is_semicolon (kind_of l)) (λ _. misfits len (l ∷ ls))
    (λ _. choice (is_left_paren (kind_of l)) (λ _. next (enclosed_read (more_open + 1) len ls) (λ x _. done (omega arith)))
    (λ _. choice (not (is_right_paren (kind_of l))) (λ _. next (enclosed_read more_open len ls) (λ x _. done (omega arith)))
    (λ right. let impossible : true ≡ false = rw other at right in absurd (cc))))

angle_some : (len : ℕ) (ls : List Lexeme) → Reads (λ x. 0 < length x.0) (angle_form len ls)
unfolding angle_form
angle_some len ls =
    next (token_read is_left_paren len ls) (λ open_paren _.
    choice (begins is_right_paren open_paren.1) (λ _. misfits len open_paren.1) (λ other. enclosed_some 0 len open_paren.1 other))

gate_angle_some : (gate : GateName) (len : ℕ) (ls : List Lexeme) → Reads (λ form. takes_angle gate ≡ true → 0 < length form.angle) (gate_form gate len ls)
unfolding gate_form
gate_angle_some gate len ls =
    next {P = λ x. takes_angle gate ≡ true → 0 < length x.0} (choice (takes_angle gate)
    (λ _. weaker (angle_some len ls) (λ x some _. some))
    (λ none. weaker (no_angle_read len ls) (λ x _ takes. absurd (cc)))) (λ angle some.
    next (operands_read (more_operands gate) len angle.1) (λ operands _. done some))

-- where the gate takes an angle, its form has some tokens for it
pub angle_given : (p : ProgramParts) (gate : GateName) (len : ℕ) (word : Lexeme) (ls : List Lexeme) (form : GateForm) → ordered_gate_form p gate len word ls ≡ Ok form → takes_angle gate ≡ true → 0 < length form.angle
angle_given p gate len word ls form =
    value_met IsOfText (λ f. takes_angle gate ≡ true → 0 < length f.angle) (ordered_gate_form p gate len word ls) form
    (choice (length p.tail == 0) (λ _. gate_angle_some gate len ls) (λ _. refused tt))
