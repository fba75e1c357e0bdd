-- Tokens with the bytes that they stand for, and the statements that they are cut into.
use Rattle.std.specs.Prelude.{ℕ, ◌-◌, Bool, true, false, if◌then◌else◌, List, [], ◌∷◌, map, take, drop}
use Rattle.qz_circ.specs.declared.token.Token.{Token}
use Rattle.qz_circ.specs.declared.token.Kind.{Kind}
use Rattle.qz_circ.specs.declared.token.Kind.TheVariants.{Semicolon}

-- a token and its bytes
pub record Lexeme : Type 0 where
  pub token : Token
  pub text : List ℕ

-- what it is
abbrev pub kind_of : Lexeme → Kind
kind_of l = l.token.kind

-- where it begins
abbrev pub place_of : Lexeme → ℕ
place_of l = l.token.start

-- a token of a text with its bytes
abbrev pub lexeme : List ℕ → Token → Lexeme
lexeme bytes t = record { token = t; text = take (t.end - t.start) (drop t.start bytes) }

-- the tokens of a text with their bytes
abbrev pub lexemes : List ℕ → List Token → List Lexeme
lexemes bytes ts = map (lexeme bytes) ts

abbrev pub is_semicolon : Kind → Bool
is_semicolon Semicolon = true
is_semicolon _ = false

-- statements with one token more before them, in the first one
abbrev pub with_first : Lexeme → List (List Lexeme) → List (List Lexeme)
with_first l [] = (l ∷ []) ∷ []
with_first l (statement ∷ others) = (l ∷ statement) ∷ others

-- The tokens cut behind each semicolon. Each part ends with one, but perhaps the last, and none has another.
unfoldable pub statements_of : List Lexeme → List (List Lexeme)
statements_of [] = []
statements_of (l ∷ ls) = if is_semicolon (kind_of l) then (l ∷ []) ∷ statements_of ls else with_first l (statements_of ls)
