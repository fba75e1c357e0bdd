-- The text of each token of a text is one of its kind, within its limit.
use Rattle.std.proofs.Common.{◌≡◌, ℕ, ◌-◌, ◌≤◌, List, [], ◌∷◌, length, drop, arith}
use Rattle.std.specs.Prelude.{Result, Ok, Err}
use Rattle.std.specs.List.{AllByRecursion}
use Rattle.std.proofs.lemmas.Bool.{cond_both}
use Rattle.std.proofs.lemmas.List.{length-take}
use Rattle.qz_circ.specs.declared.token.Token.{Token}
use Rattle.qz_circ.specs.declared.token.Kind.{Kind}
use Rattle.qz_circ.specs.declared.token.Kind.TheVariants.{Word, Whole}
use Rattle.qz_circ.specs.declared.fault.LexFault.{LexFault}
use Rattle.qz_circ.specs.declared.fault.LexFault.TheVariants.{BadByte, LongName, BigNumber, Memory}
use Rattle.qz_circ.specs.Tokens.{tokens_of}
use Rattle.qz_circ.specs.TokenTexts.{IsWithinLimit, AreInOrder, IsCut}
use Rattle.qz_circ.specs.Lexemes.{Lexeme, kind_of, lexemes, is_semicolon, with_first, statements_of}
use Rattle.qz_lex.proofs.CutLemmas.{tokens_in_order}
use Rattle.qz_qread.specs.Spelled.{IsSpelled, AreSpelled}
use Rattle.qz_qread.proofs.Readings.{Meets, value_met, done, refused}

-- the fault is not that memory ran out
abbrev pub IsOfTokens : LexFault → Type 0
IsOfTokens Memory = ⊥
IsOfTokens _ = Unit {0}

-- a limit holds of fewer bytes, too
limit_kept : (kind : Kind) (m n : ℕ) → m ≤ n → IsWithinLimit kind n → IsWithinLimit kind m
limit_kept Word m n le within = omega arith
limit_kept (Whole value) m n le within = omega arith
limit_kept _ m n le within = tt

-- tokens that stand in order have their texts
order_spelled : (bytes : List ℕ) (from to : ℕ) (ts : List Token) → AreInOrder bytes from to ts → AreSpelled (lexemes bytes ts)
order_spelled bytes from to [] order = tt
order_spelled bytes from to (t ∷ ts) order =
    let own = order.2 in
    let short = length-take (t.end - t.start) (drop t.start bytes) in
    ((own.0.fits, limit_kept t.kind _ (t.end - t.start) (omega (arith, short)) own.1), order_spelled bytes t.end to ts order.3)

cut_read : (bytes : List ℕ) (r : Result (List Token) LexFault) → IsCut bytes r → Meets IsOfTokens (λ ts. AreSpelled (lexemes bytes ts)) r
cut_read bytes (Ok ts) is = done (order_spelled bytes 0 (length bytes) ts is)
cut_read bytes (Err Memory) is = absurd is.3
cut_read bytes (Err (BadByte p)) is = refused tt
cut_read bytes (Err (LongName p)) is = refused tt
cut_read bytes (Err (BigNumber p)) is = refused tt

-- each token of a text has a text of its kind, and no text lacks memory
pub tokens_read : (bytes : List ℕ) → Meets IsOfTokens (λ ts. AreSpelled (lexemes bytes ts)) (tokens_of bytes)
tokens_read bytes = cut_read bytes (tokens_of bytes) (tokens_in_order bytes)

-- the same of the tokens that were cut
pub tokens_spelled : (bytes : List ℕ) (ts : List Token) → tokens_of bytes ≡ Ok ts → AreSpelled (lexemes bytes ts)
tokens_spelled bytes ts is = value_met IsOfTokens (λ ts. AreSpelled (lexemes bytes ts)) (tokens_of bytes) ts (tokens_read bytes) is

-- ---- statements

with_first_spelled : (l : Lexeme) (statements : List (List Lexeme)) → IsSpelled l → AllByRecursion AreSpelled statements → AllByRecursion AreSpelled (with_first l statements)
with_first_spelled l [] here rest = ((here, tt), tt)
with_first_spelled l (statement ∷ others) here rest = ((here, rest.0), rest.1)

-- statements are cut from tokens
pub statements_spelled : (ls : List Lexeme) → AreSpelled ls → AllByRecursion AreSpelled (statements_of ls)
unfolding statements_of
statements_spelled [] h = tt
statements_spelled (l ∷ ls) h =
    let rest = statements_spelled ls h.1 in
    cond_both (is_semicolon (kind_of l)) _ _ (AllByRecursion AreSpelled) (λ _. ((h.0, tt), rest)) (λ _. with_first_spelled l (statements_of ls) h.0 rest)
