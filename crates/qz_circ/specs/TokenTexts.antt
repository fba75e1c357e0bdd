-- Which texts are those of tokens and of what stands between them, and how a text is cut into them, said without regard to how
-- tokens are found. (OpenQASM 2.0.)
use Rattle.std.specs.Prelude.{◌≡◌, ◌≢◌, ℕ, ◌+◌, ◌-◌, ◌<◌, ◌≤◌, ◌⊎◌, true, List, [], ◌∷◌, ◌++◌, length, take, drop, codes, Option, Some, None, Result, Ok, Err}
use Rattle.std.specs.Char.{is_ascii_digit, is_ascii_alphabetic}
use Rattle.std.specs.List.{list_all}
use Rattle.std.specs.Str.Parse.{digits_value}
use Rattle.qz_circ.specs.declared.token.Token.{Token}
use Rattle.qz_circ.specs.declared.token.Kind.{Kind}
use Rattle.qz_circ.specs.declared.token.Kind.TheVariants.{Word, Pi, Whole, Real, Text, Semicolon, Comma, LeftParen, RightParen, LeftBracket, RightBracket, LeftBrace, RightBrace, Plus, Minus, Star, Slash, Caret, Arrow, Equal}
use Rattle.qz_circ.specs.declared.fault.LexFault.{LexFault}
use Rattle.qz_circ.specs.declared.fault.LexFault.TheVariants.{BadByte, LongName, BigNumber, Memory}
use Rattle.qz_circ.specs.ProgramLimits.{longest_word, most_digits}
use Rattle.qz_circ.specs.Tokens.{Front, is_blank, is_in_line, is_in_word, is_in_quotes}

-- only digits, perhaps none
abbrev pub AreDigits : List ℕ → Type 0
AreDigits z = list_all is_ascii_digit z ≡ true

-- digits, perhaps behind a sign
abbrev pub AreSignedDigits : List ℕ → Type 0
AreSignedDigits [] = ⊥
AreSignedDigits (b ∷ z) = AreDigits (b ∷ z) ⊎ (((b ≡ 43) ⊎ (b ≡ 45)) × AreDigits z × (0 < length z))

-- `e` or `E` with digits, perhaps behind a sign
abbrev pub IsExponent : List ℕ → Type 0
IsExponent [] = ⊥
IsExponent (e ∷ z) = ((e ≡ 101) ⊎ (e ≡ 69)) × AreSignedDigits z

-- digits with a point before, among or after them, and perhaps an exponent
pub record HasPoint (z : List ℕ) : Type 0 where
  pub before : List ℕ
  pub after : List ℕ
  pub exponent : List ℕ
  pub is : z ≡ before ++ 46 ∷ (after ++ exponent)
  pub before_digits : AreDigits before
  pub after_digits : AreDigits after
  pub some : 0 < length before + length after
  pub ends : (exponent ≡ []) ⊎ IsExponent exponent

-- digits with an exponent
pub record HasExponent (z : List ℕ) : Type 0 where
  pub whole : List ℕ
  pub exponent : List ℕ
  pub is : z ≡ whole ++ exponent
  pub digits : AreDigits whole
  pub some : 0 < length whole
  pub ends : IsExponent exponent

-- a letter, and then letters, digits and `_`
abbrev pub IsWord : List ℕ → Type 0
IsWord [] = ⊥
IsWord (b ∷ z) = (is_ascii_alphabetic b ≡ true) × (list_all is_in_word z ≡ true)

-- bytes between two quotes on one line
pub record IsQuoted (z : List ℕ) : Type 0 where
  pub inside : List ℕ
  pub is : z ≡ 34 ∷ (inside ++ 34 ∷ [])
  pub bytes : list_all is_in_quotes inside ≡ true

-- the text is one of a token of this kind
abbrev pub Spells : Kind → List ℕ → Type 0
Spells Word z = IsWord z × (z ≢ codes "pi")
Spells Pi z = z ≡ codes "pi"
Spells (Whole n) z = AreDigits z × (0 < length z) × (n ≡ digits_value 10 z)
Spells Real z = HasPoint z ⊎ HasExponent z
Spells Text z = IsQuoted z
Spells Semicolon z = z ≡ codes ";"
Spells Comma z = z ≡ codes ","
Spells LeftParen z = z ≡ codes "("
Spells RightParen z = z ≡ codes ")"
Spells LeftBracket z = z ≡ codes "["
Spells RightBracket z = z ≡ codes "]"
Spells LeftBrace z = z ≡ codes "{"
Spells RightBrace z = z ≡ codes "}"
Spells Plus z = z ≡ codes "+"
Spells Minus z = z ≡ codes "-"
Spells Star z = z ≡ codes "*"
Spells Slash z = z ≡ codes "/"
Spells Caret z = z ≡ codes "^"
Spells Arrow z = z ≡ codes "->"
Spells Equal z = z ≡ codes "=="

-- space, tab, carriage return and line feed, at least one of them
abbrev pub AreBlanks : List ℕ → Type 0
AreBlanks z = (list_all is_blank z ≡ true) × (0 < length z)

-- two slashes, and then bytes none of which is a line feed
pub record IsComment (z : List ℕ) : Type 0 where
  pub inside : List ℕ
  pub is : z ≡ codes "//" ++ inside
  pub bytes : list_all is_in_line inside ≡ true

-- the text is one of a token of this kind, or of a gap where there is none
abbrev pub IsTextOf : Option Kind → List ℕ → Type 0
IsTextOf (Some kind) z = Spells kind z
IsTextOf None z = AreBlanks z ⊎ IsComment z

-- The first n bytes are a token of this kind, or a gap, and no text of a token or of a gap with which the text begins is longer.
pub record IsLongest (what : Option Kind) (n : ℕ) (z : List ℕ) : Type 0 where
  pub within : n ≤ length z
  pub fits : IsTextOf what (take n z)
  pub longest : (other : Option Kind) (x rest : List ℕ) → z ≡ x ++ rest → IsTextOf other x → length x ≤ n

-- words and whole numbers are within their limits of length
abbrev pub IsWithinLimit : Kind → ℕ → Type 0
IsWithinLimit Word n = n ≤ longest_word
IsWithinLimit (Whole value) n = n ≤ most_digits
IsWithinLimit kind n = Unit {0}

-- What is taken at the front of a text at a place: the longest gap; or the longest token, within its limit. A word or a whole
-- number past its limit that is the longest token is a fault at the place, and so is a byte with which no token and no gap begins.
abbrev pub IsRight : ℕ → List ℕ → Result Front LexFault → Type 0
IsRight place z (Ok (Some kind, n)) = IsLongest (Some kind) n z × IsWithinLimit kind n
IsRight place z (Ok (None, n)) = IsLongest None n z
IsRight place z (Err (LongName p)) = (p ≡ place) × ((n : ℕ) × IsLongest (Some Word) n z × (longest_word < n))
IsRight place z (Err (BigNumber p)) = (p ≡ place) × ((n value : ℕ) × IsLongest (Some (Whole value)) n z × (most_digits < n))
IsRight place z (Err (BadByte p)) = (p ≡ place) × (0 < length z) × ((what : Option Kind) (x rest : List ℕ) → z ≡ x ++ rest → IsTextOf what x → ⊥)
IsRight place z (Err Memory) = ⊥

-- ---- whole texts

-- From one place to another there are gaps of these lengths, one after the other, each the longest that fits where it begins.
abbrev pub AreGapsOf : List ℕ → ℕ → ℕ → List ℕ → Type 0
AreGapsOf z from to [] = from ≡ to
AreGapsOf z from to (n ∷ lengths) = IsLongest None n (drop from z) × AreGapsOf z (from + n) to lengths

-- nothing but gaps stands from one place to another
abbrev pub AreGaps : List ℕ → ℕ → ℕ → Type 0
AreGaps z from to = (lengths : List ℕ) × AreGapsOf z from to lengths

-- The token has its own text: that from its start to its end, which is one of its kind, within its limit, and the longest that
-- fits where it begins.
abbrev pub HasItsText : List ℕ → Token → Type 0
HasItsText z t = IsLongest (Some t.kind) (t.end - t.start) (drop t.start z) × IsWithinLimit t.kind (t.end - t.start)

-- From one place to another these tokens stand in order, each with its text, and nothing but gaps between them.
abbrev pub AreInOrder : List ℕ → ℕ → ℕ → List Token → Type 0
AreInOrder z from to [] = AreGaps z from to
AreInOrder z from to (t ∷ ts) = (from ≤ t.start) × AreGaps z from t.start × HasItsText z t × AreInOrder z t.end to ts

-- The tokens of a text stand in order from its first byte to its end; or they stand so up to a place before the end, and at it
-- is the fault.
abbrev pub IsCut : List ℕ → Result (List Token) LexFault → Type 0
IsCut z (Ok ts) = AreInOrder z 0 (length z) ts
IsCut z (Err e) = (ts : List Token) × (place : ℕ) × AreInOrder z 0 place ts × IsRight place (drop place z) (Err e)
