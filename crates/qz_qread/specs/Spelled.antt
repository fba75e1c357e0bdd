-- Tokens whose bytes are those of a token of their kind.
use Rattle.std.specs.Prelude.{List, length}
use Rattle.std.specs.List.{AllByRecursion}
use Rattle.qz_circ.specs.TokenTexts.{Spells, IsWithinLimit}
use Rattle.qz_circ.specs.Lexemes.{Lexeme, kind_of}

-- the token's text is one of its kind, within its limit
abbrev pub IsSpelled : Lexeme → Type 0
IsSpelled l = Spells (kind_of l) l.text × IsWithinLimit (kind_of l) (length l.text)

-- and so for each of some tokens
abbrev pub AreSpelled : List Lexeme → Type 0
AreSpelled ls = AllByRecursion IsSpelled ls
