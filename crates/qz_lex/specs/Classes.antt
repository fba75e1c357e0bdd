-- Classes of bytes, as the lexer names them, and what stands within a text.
use Rattle.std.specs.Prelude.{ℕ, ◌<◌, ◌≤◌, Bool, List, length, Result, IfOk}
use Rattle.std.specs.Char.{is_ascii_digit}
use Rattle.qz_circ.specs.declared.fault.LexFault.{LexFault}
use Rattle.qz_circ.specs.declared.token.Token.{Token}
use Rattle.qz_circ.specs.Tokens.{Front, is_blank, is_in_line, is_in_word, is_in_quotes}
use Rattle.qz_lex.specs.declared.lex.Class.{Class}
use Rattle.qz_lex.specs.declared.lex.Class.TheVariants.{Blank, Line, Word, Quotes, Digit}

-- the byte is of the class
abbrev pub is_of : Class → ℕ → Bool
is_of Blank b = is_blank b
is_of Line b = is_in_line b
is_of Word b = is_in_word b
is_of Quotes b = is_in_quotes b
is_of Digit b = is_ascii_digit b

-- what was found has at least one byte, and no more than the text
abbrev pub IsPart : Result Front LexFault → List ℕ → Type 0
IsPart result z = IfOk result (λ first. (0 < first.1) × (first.1 ≤ length z))

-- the token has at least one byte, and none behind the end of a text of this length
abbrev pub IsTokenOf : ℕ → Token → Type 0
IsTokenOf len token = (token.start < token.end) × (token.end ≤ len)
