-- Reading one statement after the other.
use Rattle.std.proofs.Common.{◌≡◌, ◌≢◌, ℕ, ap, zero, suc, List, [], ◌∷◌, length, take, drop, refl, sym, ◌∙◌, arith}
use Rattle.std.specs.Prelude.{Result, Ok, Err, IfOk}
use Rattle.qz_circ.specs.declared.token.Token.{Token}
use Rattle.qz_circ.specs.declared.fault.QasmFault.{QasmFault}
use Rattle.qz_circ.specs.declared.fault.QasmFault.TheVariants.{Lex, Syntax, Memory}
use Rattle.qz_circ.specs.declared.fault.LexFault.TheVariants as lex_fault
use Rattle.qz_circ.specs.FirstFault.{fault_as, GivesUnless}
use Rattle.qz_circ.specs.Grammar.{with_statement, with_statements, program_from, program_of}
use Rattle.qz_circ.specs.Lexemes.{lexemes, statements_of}
use Rattle.qz_circ.specs.Programs.{ProgramParts}
use Rattle.qz_circ.specs.Tokens.{tokens_of}
use Rattle.qz_circ.specs.ValidPrograms.{Valid}
use Rattle.qz_qread.specs.Spelled.{AreSpelled}
use Rattle.qz_qread.proofs.SpelledLexemes.{tokens_spelled}
use Rattle.qz_qread.proofs.ValidReadings.{valid_kept, what_is_read_is_valid, no_tokens_lack_memory}

-- the first tokens are spelled as their kinds, and so are the others
first_spelled : (bytes : List ℕ) (ts : List Token) (n : ℕ) → AreSpelled (lexemes bytes ts) → AreSpelled (lexemes bytes (take n ts))
first_spelled bytes ts zero each = tt
first_spelled bytes [] (suc n) each = tt
first_spelled bytes (t ∷ ts) (suc n) each = (each.0, first_spelled bytes ts n each.1)

pub others_spelled : (bytes : List ℕ) (ts : List Token) (n : ℕ) → AreSpelled (lexemes bytes ts) → AreSpelled (lexemes bytes (drop n ts))
others_spelled bytes ts zero each = each
others_spelled bytes [] (suc n) each = tt
others_spelled bytes (t ∷ ts) (suc n) each = others_spelled bytes ts n each.1

-- Of all tokens these are left. The program that was read from the others is valid, and goes on with these as the first one
-- does with all.
pub record Stands (bytes : List ℕ) (start : ProgramParts) (all : List Token) (p : ProgramParts) (ts : List Token) : Type 0 where
  pub valid : Valid p
  pub spelled : AreSpelled (lexemes bytes ts)
  pub same : with_statements (length bytes) p (statements_of (lexemes bytes ts)) ≡ with_statements (length bytes) start (statements_of (lexemes bytes all))

-- the statements of some tokens are the first one, of so many tokens, and those of the others
abbrev pub IsFirst : List ℕ → List Token → ℕ → Type 0
IsFirst bytes ts n = statements_of (lexemes bytes ts) ≡ lexemes bytes (take n ts) ∷ statements_of (lexemes bytes (drop n ts))

-- the first statement is read
pub statement_goes : (bytes : List ℕ) (start : ProgramParts) (all : List Token) (p q : ProgramParts) (ts : List Token) (n : ℕ) → Stands bytes start all p ts → IsFirst bytes ts n → with_statement (length bytes) p (lexemes bytes (take n ts)) ≡ Ok q → Stands bytes start all q (drop n ts)
unfolding with_statements
statement_goes bytes start all p q ts n here first is = record {
  valid = valid_kept (length bytes) p q (lexemes bytes (take n ts)) is here.valid (first_spelled bytes ts n here.spelled);
  spelled = others_spelled bytes ts n here.spelled;
  same = (let one : with_statements (length bytes) p (statements_of (lexemes bytes ts)) ≡ with_statements (length bytes) q (statements_of (lexemes bytes (drop n ts))) = rw (first, is) refl in sym one ∙ here.same);
}

-- its fault is the first one
pub statement_fails : (bytes : List ℕ) (start : ProgramParts) (all : List Token) (p : ProgramParts) (ts : List Token) (n : ℕ) (e : QasmFault) → Stands bytes start all p ts → IsFirst bytes ts n → with_statement (length bytes) p (lexemes bytes (take n ts)) ≡ Err e → with_statements (length bytes) start (statements_of (lexemes bytes all)) ≡ Err e
unfolding with_statements
statement_fails bytes start all p ts n e here first is =
    let one : with_statements (length bytes) p (statements_of (lexemes bytes ts)) ≡ Err e = rw (first, is) refl in sym here.same ∙ one

-- none is left
pub statements_end : (bytes : List ℕ) (start : ProgramParts) (all : List Token) (p : ProgramParts) → Stands bytes start all p [] → with_statements (length bytes) start (statements_of (lexemes bytes all)) ≡ Ok p
unfolding with_statements statements_of
statements_end bytes start all p here = sym here.same

-- the tokens of a text are spelled as their kinds
pub spelled_of : (bytes : List ℕ) (ts : List Token) → fault_as Lex (tokens_of bytes) ≡ Ok ts → AreSpelled (lexemes bytes ts)
spelled_of bytes ts is = tokens_spelled bytes ts (by (tokens_of bytes) is)
  where
    by : (r : Result (List Token) _) → fault_as Lex r ≡ Ok ts → r ≡ Ok ts
    by (Ok x) same = cc
    by (Err e) same = absurd (cc)

-- without tokens there is no header
pub no_tokens : (len : ℕ) (bytes : List ℕ) (ts : List Token) → length ts ≡ 0 → program_from len (statements_of (lexemes bytes ts)) ≡ Err (Syntax len)
unfolding program_from statements_of
no_tokens len bytes [] none = refl
no_tokens len bytes (t ∷ ts) none = absurd (omega arith)

-- the program of a text is valid
pub valid_of : (bytes : List ℕ) (ts : List Token) (r : Result ProgramParts QasmFault) → fault_as Lex (tokens_of bytes) ≡ Ok ts → GivesUnless Memory (λ p. p) r (program_from (length bytes) (statements_of (lexemes bytes ts))) → IfOk r Valid
unfolding program_of
valid_of bytes ts (Ok p) is gives = what_is_read_is_valid bytes p (rw is gives)
valid_of bytes ts (Err e) is gives = tt

-- want of memory is never a fault of tokens, neither where the tokens have a fault
pub no_lexical_memory : {A : Type 0} (bytes : List ℕ) (e : QasmFault) → (e ≢ Memory → fault_as Lex (tokens_of bytes) ≡ Err e) → ◌≢◌ {A = Result A QasmFault} (Err e) (Err (Lex lex_fault.Memory))
unfolding program_of
no_lexical_memory bytes e gives is =
    let same : e ≡ Lex lex_fault.Memory = cc in
    let read = gives (λ other. (let no : Lex lex_fault.Memory ≡ Memory = sym same ∙ other in cc)) ∙ ap Err same in
    no_tokens_lack_memory bytes (rw read refl)

-- nor where they are read
pub no_lexical_memory_of : (bytes : List ℕ) (ts : List Token) (r : Result ProgramParts QasmFault) → fault_as Lex (tokens_of bytes) ≡ Ok ts → GivesUnless Memory (λ p. p) r (program_from (length bytes) (statements_of (lexemes bytes ts))) → r ≢ Err (Lex lex_fault.Memory)
unfolding program_of
no_lexical_memory_of bytes ts (Ok p) read gives is = cc
no_lexical_memory_of bytes ts (Err e) read gives is =
    let same : e ≡ Lex lex_fault.Memory = cc in
    no_tokens_lack_memory bytes (rw read (gives (λ other. (let no : Lex lex_fault.Memory ≡ Memory = sym same ∙ other in cc)) ∙ ap Err same))
