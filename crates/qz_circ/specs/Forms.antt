-- The forms of statements: which tokens follow one another. The source is OpenQASM 2.0; that the rest of it is refused is
-- this project's own. Syntax stands at the first token that doesn't fit, or at the text's length where the tokens run out.
use Rattle.std.specs.Prelude.{ℕ, zero, suc, ◌+◌, ◌-◌, Bool, true, false, not, ◌&&◌, ◌==◌, if◌then◌else◌, List, [], ◌∷◌, slice_index, count_by, codes, Option, Some, None, Result, Ok, Err}
use Rattle.std.specs.Char.{is_ascii_lowercase}
use Rattle.std.specs.List.{list_any}
use Rattle.std.specs.Str.{bytes_eq}
use Rattle.qz_circ.specs.declared.token.Kind.{Kind}
use Rattle.qz_circ.specs.declared.token.Kind.TheVariants.{Word, Whole, Real, Text, Comma, LeftParen, RightParen, LeftBracket, RightBracket, Arrow}
use Rattle.qz_circ.specs.declared.fault.QasmFault.{QasmFault}
use Rattle.qz_circ.specs.declared.fault.QasmFault.TheVariants as fault
use Rattle.qz_circ.specs.declared.gate_name.GateName.{GateName}
use Rattle.qz_circ.specs.FirstFault.{◌>>=◌}
use Rattle.qz_circ.specs.GateNames.{takes_angle, more_operands}
use Rattle.qz_circ.specs.ValidPrograms.{reserved_words}
use Rattle.qz_circ.specs.Lexemes.{Lexeme, kind_of, place_of, is_semicolon}

-- What the first tokens are read as, and the tokens after them; or the first fault.
abbrev pub Read : Type 0 → Type 0
Read A = Result (A × List Lexeme) QasmFault

-- ---- single tokens

-- the first token is refused; where there is none, the place is the text's length
abbrev pub misfit : {A : Type 0} → ℕ → List Lexeme → Result A QasmFault
misfit len [] = Err (fault.Syntax len)
misfit len (l ∷ ls) = Err (fault.Syntax (place_of l))

-- a token that passes the test
unfoldable pub one : (Lexeme → Bool) → ℕ → List Lexeme → Read Lexeme
one accepts len [] = misfit len []
one accepts len (l ∷ ls) = if accepts l then Ok (l, ls) else misfit len (l ∷ ls)

-- a token of a kind that passes the test
abbrev pub token : (Kind → Bool) → ℕ → List Lexeme → Read Lexeme
token accepts len ls = one (λ l. accepts (kind_of l)) len ls

-- a token of such a kind comes first
abbrev pub begins : (Kind → Bool) → List Lexeme → Bool
begins accepts [] = false
begins accepts (l ∷ ls) = accepts (kind_of l)

-- tests of kinds
abbrev pub is_word : Kind → Bool
is_word Word = true
is_word _ = false

abbrev pub is_whole : Kind → Bool
is_whole (Whole n) = true
is_whole _ = false

-- a number of any kind
abbrev pub is_number : Kind → Bool
is_number (Whole n) = true
is_number Real = true
is_number _ = false

abbrev pub is_text : Kind → Bool
is_text Text = true
is_text _ = false

abbrev pub is_comma : Kind → Bool
is_comma Comma = true
is_comma _ = false

abbrev pub is_left_paren : Kind → Bool
is_left_paren LeftParen = true
is_left_paren _ = false

abbrev pub is_right_paren : Kind → Bool
is_right_paren RightParen = true
is_right_paren _ = false

abbrev pub is_left_bracket : Kind → Bool
is_left_bracket LeftBracket = true
is_left_bracket _ = false

abbrev pub is_right_bracket : Kind → Bool
is_right_bracket RightBracket = true
is_right_bracket _ = false

abbrev pub is_arrow : Kind → Bool
is_arrow Arrow = true
is_arrow _ = false

-- the value of a whole number
abbrev pub number_of : Kind → ℕ
number_of (Whole n) = n
number_of _ = 0

abbrev pub value_of : Lexeme → ℕ
value_of l = number_of (kind_of l)

-- the word with this spelling
abbrev pub is_spelled : List ℕ → Lexeme → Bool
is_spelled word l = is_word (kind_of l) && bytes_eq l.text word

-- the first letter is a lower-case one
abbrev pub begins_lower : List ℕ → Bool
begins_lower word = is_ascii_lowercase (slice_index word 0)

-- the word may name a register: it begins with a lower-case letter and isn't reserved
unfoldable pub is_free_name : Lexeme → Bool
is_free_name l = is_word (kind_of l) && begins_lower l.text && not (list_any (bytes_eq l.text) reserved_words)

-- the number may be a size: it is whole and isn't 0
abbrev pub is_size : Lexeme → Bool
is_size l = is_whole (kind_of l) && not (value_of l == 0)

-- ---- header and declarations

-- the number of the version, between the word OPENQASM and the semicolon
unfoldable pub header_form : ℕ → List Lexeme → Result Lexeme QasmFault
header_form len ls = do
  word ← one (is_spelled (codes "OPENQASM")) len ls
  version ← token is_number len word.1
  end ← token is_semicolon len version.1
  Ok version.0

-- a register's name and its size
pub record Declaration : Type 0 where
  pub name : Lexeme
  pub size : Lexeme

-- a name, a size in brackets and a semicolon
unfoldable pub declaration_form : ℕ → List Lexeme → Result Declaration QasmFault
declaration_form len ls = do
  name ← one is_free_name len ls
  open_bracket ← token is_left_bracket len name.1
  size ← one is_size len open_bracket.1
  close_bracket ← token is_right_bracket len size.1
  end ← token is_semicolon len close_bracket.1
  Ok (record { name = name.0; size = size.0 })

-- ---- operands

-- the name of a register, and perhaps a number in brackets
pub record Operand : Type 0 where
  pub name : Lexeme
  pub index : Option Lexeme

-- a number in brackets, where a bracket comes first
unfoldable pub index_form : ℕ → List Lexeme → Read (Option Lexeme)
index_form len ls =
    if begins is_left_bracket ls then (do
      open_bracket ← token is_left_bracket len ls
      number ← token is_whole len open_bracket.1
      close_bracket ← token is_right_bracket len number.1
      Ok (Some number.0, close_bracket.1))
    else Ok (None, ls)

-- a word, and perhaps a number in brackets
unfoldable pub operand_form : ℕ → List Lexeme → Read Operand
operand_form len ls = do
  word ← token is_word len ls
  index ← index_form len word.1
  Ok (record { name = word.0; index = index.0 }, index.1)

-- so many operands, each after a comma
unfoldable pub more_operands_form : ℕ → ℕ → List Lexeme → Read (List Operand)
more_operands_form zero len ls = Ok ([], ls)
more_operands_form (suc n) len ls = do
  comma ← token is_comma len ls
  operand ← operand_form len comma.1
  others ← more_operands_form n len operand.1
  Ok (operand.0 ∷ others.0, others.1)

-- an operand and so many more, with commas between them, and a semicolon
unfoldable pub operands_form : ℕ → ℕ → List Lexeme → Result (List Operand) QasmFault
operands_form n len ls = do
  first ← operand_form len ls
  others ← more_operands_form n len first.1
  end ← token is_semicolon len others.1
  Ok (first.0 ∷ others.0)

-- ---- barriers and measurements

-- Operands with commas between them, and a semicolon. As the semicolon ends the statement, there is one operand more than
-- there are commas.
abbrev pub barrier_form : ℕ → List Lexeme → Result (List Operand) QasmFault
barrier_form len ls = operands_form (count_by (λ l. is_comma (kind_of l)) ls) len ls

-- what is measured, and into what
pub record Measurement : Type 0 where
  pub from : Operand
  pub to : Operand

-- an operand, an arrow, an operand and a semicolon
unfoldable pub measure_form : ℕ → List Lexeme → Result Measurement QasmFault
measure_form len ls = do
  from ← operand_form len ls
  arrow ← token is_arrow len from.1
  to ← operand_form len arrow.1
  end ← token is_semicolon len to.1
  Ok (record { from = from.0; to = to.0 })

-- ---- gates

-- the tokens with one more before them
abbrev pub with_lexeme : Lexeme → Read (List Lexeme) → Read (List Lexeme)
with_lexeme l read = do
  x ← read
  Ok (l ∷ x.0, x.1)

-- The tokens before the parenthesis that closes, while so many more are open; none of them is a semicolon. This parenthesis
-- is read, too.
unfoldable pub enclosed : ℕ → ℕ → List Lexeme → Read (List Lexeme)
enclosed more_open len [] = misfit len []
enclosed more_open len (l ∷ ls) =
    if is_semicolon (kind_of l) then misfit len (l ∷ ls)
    else if is_left_paren (kind_of l) then with_lexeme l (enclosed (more_open + 1) len ls)
    else if not (is_right_paren (kind_of l)) then with_lexeme l (enclosed more_open len ls)
    else if more_open == 0 then Ok ([], ls)
    else with_lexeme l (enclosed (more_open - 1) len ls)

-- the tokens of an angle, at least one, in parentheses
unfoldable pub angle_form : ℕ → List Lexeme → Read (List Lexeme)
angle_form len ls = do
  open_paren ← token is_left_paren len ls
  if begins is_right_paren open_paren.1 then misfit len open_paren.1 else enclosed 0 len open_paren.1

-- perhaps two parentheses with nothing between them
unfoldable pub no_angle_form : ℕ → List Lexeme → Read (List Lexeme)
no_angle_form len ls =
    if begins is_left_paren ls then (do
      open_paren ← token is_left_paren len ls
      close_paren ← token is_right_paren len open_paren.1
      Ok ([], close_paren.1))
    else Ok ([], ls)

-- the tokens of a gate's angle, none where it takes none, and its operands
pub record GateForm : Type 0 where
  pub angle : List Lexeme
  pub operands : List Operand

-- the angle of a gate that takes one, the operands of the gate and a semicolon
unfoldable pub gate_form : GateName → ℕ → List Lexeme → Result GateForm QasmFault
gate_form gate len ls = do
  angle ← if takes_angle gate then angle_form len ls else no_angle_form len ls
  operands ← operands_form (more_operands gate) len angle.1
  Ok (record { angle = angle.0; operands = operands })
