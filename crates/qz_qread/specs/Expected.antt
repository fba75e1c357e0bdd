-- What the code expects of the next token, as the tests of the definitions.
use Rattle.std.specs.Prelude.{Bool, codes}
use Rattle.qz_circ.specs.declared.token.Kind.{Kind}
use Rattle.qz_circ.specs.Lexemes.{Lexeme, kind_of, is_semicolon}
use Rattle.qz_circ.specs.Forms as forms
use Rattle.qz_qread.specs.declared.lexeme.Sort.{Sort}
use Rattle.qz_qread.specs.declared.lexeme.Sort.TheVariants.{Word, Whole, Number, Text, Comma, LeftParen, RightParen, LeftBracket, RightBracket, Arrow, Semicolon}
use Rattle.qz_qread.specs.declared.form.Expected.{Expected}
use Rattle.qz_qread.specs.declared.form.Expected.TheVariants.{Of, Openqasm, FreeName, Size}

-- the kind is of the sort
abbrev pub is_of : Sort → Kind → Bool
is_of Word = forms.is_word
is_of Whole = forms.is_whole
is_of Number = forms.is_number
is_of Text = forms.is_text
is_of Comma = forms.is_comma
is_of LeftParen = forms.is_left_paren
is_of RightParen = forms.is_right_paren
is_of LeftBracket = forms.is_left_bracket
is_of RightBracket = forms.is_right_bracket
is_of Arrow = forms.is_arrow
is_of Semicolon = is_semicolon

-- the token is what is expected
abbrev pub accepts : Expected → Lexeme → Bool
accepts (Of sort) = λ l. is_of sort (kind_of l)
accepts Openqasm = forms.is_spelled (codes "OPENQASM")
accepts FreeName = forms.is_free_name
accepts Size = forms.is_size
