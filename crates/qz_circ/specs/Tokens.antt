-- The tokens of a text, or its leftmost fault. The source is OpenQASM 2.0; the limits and the faults are this project's own.
use Rattle.std.specs.Prelude.{ℕ, zero, suc, ◌+◌, ◌-◌, Bool, not, ◌&&◌, ◌||◌, ◌==◌, nat_lt, if◌then◌else◌, List, [], ◌∷◌, take, drop, slice_index, codes, Option, Some, None, Result, Ok, Err}
use Rattle.std.specs.Char.{is_ascii_digit, is_ascii_alphabetic, is_ascii_alphanumeric}
use Rattle.std.specs.List.{prefix_len}
use Rattle.std.specs.Str.{bytes_eq}
use Rattle.std.specs.Str.Parse.{digits_value}
use Rattle.qz_circ.specs.declared.token.Token.{Token}
use Rattle.qz_circ.specs.declared.token.Kind.{Kind}
use Rattle.qz_circ.specs.declared.token.Kind.TheVariants.{Word, Pi, Whole, Real, Text, Semicolon, Comma, LeftParen, RightParen, LeftBracket, RightBracket, LeftBrace, RightBrace, Plus, Minus, Star, Slash, Caret, Arrow, Equal}
use Rattle.qz_circ.specs.declared.fault.LexFault.{LexFault}
use Rattle.qz_circ.specs.declared.fault.LexFault.TheVariants.{BadByte, LongName, BigNumber}
use Rattle.qz_circ.specs.FirstFault.{◌>>=◌}
use Rattle.qz_circ.specs.ProgramLimits.{longest_word, most_digits}

-- what stands at the front of a text: a token of some kind, or none where it is a gap; and how many bytes it has
abbrev pub Front : Type 0
Front = Option Kind × ℕ

-- space, tab, carriage return and line feed stand between tokens
abbrev pub is_blank : ℕ → Bool
is_blank b = b == 32 || b == 9 || b == 13 || b == 10

-- a comment goes on to before the next line feed
abbrev pub is_in_line : ℕ → Bool
is_in_line b = not (b == 10)

-- what may follow the first letter of a word
abbrev pub is_in_word : ℕ → Bool
is_in_word b = is_ascii_alphanumeric b || b == 95

-- what may stand between quotes
abbrev pub is_in_quotes : ℕ → Bool
is_in_quotes b = not (b == 34 || b == 10)

-- how many digits the text begins with
abbrev pub digits : List ℕ → ℕ
digits z = prefix_len is_ascii_digit z

-- ---- words

-- the word at the front of a text that begins with a letter
unfoldable pub word : ℕ → List ℕ → Result Front LexFault
word place z =
    let n = prefix_len is_in_word z in
    if nat_lt longest_word n then Err (LongName place)
    else if bytes_eq (take n z) (codes "pi") then Ok (Some Pi, n)
    else Ok (Some Word, n)

-- ---- numbers

-- How long the digits at the front are, with one `.` before, among or after them where it stands there. Without a digit: 0.
unfoldable pub decimal_length : List ℕ → ℕ
decimal_length z =
    let whole = digits z in
    let after = digits (drop (whole + 1) z) in
    if slice_index z whole == 46 && nat_lt 0 (whole + after) then whole + 1 + after else whole

-- one byte for a sign
abbrev pub sign_length : ℕ → ℕ
sign_length b = if b == 43 || b == 45 then 1 else 0

-- how long the exponent at the front is: `e` or `E`, perhaps a sign, and digits; 0 where there is none
unfoldable pub exponent_length : List ℕ → ℕ
exponent_length z =
    let sign = sign_length (slice_index z 1) in
    let count = digits (drop (1 + sign) z) in
    if (slice_index z 0 == 101 || slice_index z 0 == 69) && nat_lt 0 count then 1 + sign + count else 0

-- the number at the front of a text that begins with one: digits alone are whole, and all other numbers are real
unfoldable pub number : ℕ → List ℕ → Result Front LexFault
number place z =
    let whole = digits z in
    let n = decimal_length z + exponent_length (drop (decimal_length z) z) in
    if nat_lt whole n then Ok (Some Real, n)
    else if nat_lt most_digits whole then Err (BigNumber place)
    else Ok (Some (Whole (digits_value 10 (take whole z))), whole)

-- ---- texts and signs

-- the text at the front, from a quote to the next one on its line
unfoldable pub quoted : ℕ → List ℕ → Result Front LexFault
quoted place z =
    let n = 1 + prefix_len is_in_quotes (drop 1 z) in
    if slice_index z n == 34 then Ok (Some Text, n + 1) else Err (BadByte place)

-- the sign of one byte
unfoldable pub one_byte_sign : ℕ → Option Kind
one_byte_sign b =
    if b == 59 then Some Semicolon else if b == 44 then Some Comma
    else if b == 40 then Some LeftParen else if b == 41 then Some RightParen
    else if b == 91 then Some LeftBracket else if b == 93 then Some RightBracket
    else if b == 123 then Some LeftBrace else if b == 125 then Some RightBrace
    else if b == 43 then Some Plus else if b == 45 then Some Minus
    else if b == 42 then Some Star else if b == 47 then Some Slash
    else if b == 94 then Some Caret else None

-- a sign of one byte, where there is one
abbrev pub one_byte_token : ℕ → Option Kind → Result Front LexFault
one_byte_token place (Some kind) = Ok (Some kind, 1)
one_byte_token place None = Err (BadByte place)

-- the sign at the front, where two bytes are taken before one
unfoldable pub sign : ℕ → List ℕ → Result Front LexFault
sign place z =
    let b = slice_index z 0 in
    let next = slice_index z 1 in
    if b == 45 && next == 62 then Ok (Some Arrow, 2)
    else if b == 61 && next == 61 then Ok (Some Equal, 2)
    else one_byte_token place (one_byte_sign b)

-- ---- the whole text

-- The longest gap or token at the front of a text that begins at a place; or the fault there.
unfoldable pub front : ℕ → List ℕ → Result Front LexFault
front place z =
    let b = slice_index z 0 in
    if is_blank b then Ok (None, prefix_len is_blank z)
    else if b == 47 && slice_index z 1 == 47 then Ok (None, prefix_len is_in_line z)
    else if is_ascii_alphabetic b then word place z
    else if nat_lt 0 (decimal_length z) then number place z
    else if b == 34 then quoted place z
    else sign place z

-- the tokens with the one before them that begins at the place, where it is no gap
abbrev pub with_token : ℕ → Front → List Token → List Token
with_token place (Some kind, n) tokens = record { kind = kind; start = place; end = place + n } ∷ tokens
with_token place (None, n) tokens = tokens

-- The tokens of a text that begins at a place, of which the first bytes still belong to what stands before: so many.
unfoldable pub tokens_from : ℕ → ℕ → List ℕ → Result (List Token) LexFault
tokens_from taken place [] = Ok []
tokens_from (suc taken) place (b ∷ z) = tokens_from taken (place + 1) z
tokens_from zero place (b ∷ z) = do
  first ← front place (b ∷ z)
  others ← tokens_from (first.1 - 1) (place + 1) z
  Ok (with_token place first others)

-- the tokens of a text, or its leftmost fault
unfoldable pub tokens_of : List ℕ → Result (List Token) LexFault
tokens_of bytes = tokens_from 0 0 bytes
