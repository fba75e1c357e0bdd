-- The lines of registers: each declares its register.
use Rattle.std.proofs.Common.{◌≡◌, ℕ, ◌+◌, ◌<◌, ◌≤◌, ◌==◌, nat_lt, true, false, List, [], ◌∷◌, ◌++◌, length, codes, refl, sym, ◌∙◌, ne_eqb, arith}
use Rattle.std.specs.Prelude.{Ok, Contains}
use Rattle.std.specs.Fmt.{decimal}
use Rattle.std.specs.List.{list_any}
use Rattle.std.specs.Str.{bytes_eq}
use Rattle.std.proofs.lemmas.Bool.{false_from_ne_true}
use Rattle.std.proofs.lemmas.Bool.Decides.{nat_tests}
use Rattle.std.proofs.lemmas.List.{get_or_default}
use Rattle.std.proofs.lemmas.List.Folds.{Any-from_list_any}
use Rattle.std.proofs.lemmas.Slice.Eq.{bytes_eq-Decides}
use Rattle.qz_circ.specs.declared.token.Kind.TheVariants.{Word, Whole}
use Rattle.qz_circ.specs.Registers.{RegisterParts, total_size}
use Rattle.qz_circ.specs.Programs.{ProgramParts}
use Rattle.qz_circ.specs.ValidPrograms.{reserved_words, IsSpelledAsName, IsRegisterName, registers_of}
use Rattle.qz_circ.specs.Forms.{begins_lower, is_free_name, one, declaration_form}
use Rattle.qz_circ.specs.Grammar.{has_register, declared, with_qreg, with_creg, with_words, with_statement}
use Rattle.qz_qread.proofs.Pieces.{lexemes_at, line_end, word, blank, indexed, register_line}
use Rattle.qz_qread.proofs.LinesRead.{Reads}
use Rattle.qz_qread.proofs.OperandPieces.{token_at}

-- ---- names

not_reserved : (name : List ℕ) → ¬ Contains reserved_words name → list_any (bytes_eq name) reserved_words ≡ false
not_reserved name free =
    false_from_ne_true _ (λ found. (let (k, x, within, at, same) = Any-from_list_any (bytes_eq name) reserved_words found in let is = (bytes_eq-Decides name x).0 same in free (k, within, get_or_default reserved_words k name x within ∙ at ∙ sym is)))

spelled_lower : (name : List ℕ) → IsSpelledAsName name → begins_lower name ≡ true
spelled_lower [] h = absurd h
spelled_lower (b ∷ rest) h = h.0

free_name : (place : ℕ) (name : List ℕ) → IsRegisterName name → is_free_name (token_at place Word name) ≡ true
unfolding is_free_name
free_name place name is = rw (spelled_lower name is.spelled, not_reserved name is.free) refl

-- ---- declarations

declaration_read : (len place : ℕ) (r : RegisterParts) → IsRegisterName r.name → 1 ≤ r.size → declaration_form len (lexemes_at place (indexed r.name r.size ++ line_end)) ≡ Ok (record { name = token_at place Word r.name; size = token_at (place + length r.name + 1) (Whole r.size) (decimal r.size) })
unfolding declaration_form one lexemes_at indexed
declaration_read len place r name some =
    let size : (r.size == 0) ≡ false = ne_eqb r.size 0 (λ none. omega arith) in
    rw (free_name place r.name name, size) refl

-- a program can take this register, of either kind, up to the limit of its kind
pub record IsNew (q : ProgramParts) (r : RegisterParts) : Type 0 where
  pub name : IsRegisterName r.name
  pub other : has_register q r.name ≡ false
  pub few : length (registers_of q) < 64
  pub some : 1 ≤ r.size

declared_new : (q : ProgramParts) (r : RegisterParts) (a b : ℕ) (text : List ℕ) → IsNew q r → declared q (record { name = token_at a Word r.name; size = token_at b (Whole r.size) text }) ≡ Ok r
unfolding declared
declared_new q r a b text new =
    let few = new.few in
    let test : nat_lt (length (registers_of q)) 64 ≡ true = grind (arith, nat_tests) in
    rw (new.other, test) refl

pub qreg_reads : (len : ℕ) (q : ProgramParts) (r : RegisterParts) → IsNew q r → total_size q.qregs + r.size ≤ 64 → Reads len q (register_line (codes "qreg") r) (record q { qregs = q.qregs ++ r ∷ [] })
unfolding register_line indexed lexemes_at with_statement with_words with_qreg
qreg_reads len q r new room =
    let test : nat_lt 64 (total_size q.qregs + r.size) ≡ false = grind (arith, nat_tests) in
    record {
      body = word (codes "qreg") ∷ blank ∷ indexed r.name r.size;
      ends = refl;
      inside = (refl, (refl, (refl, (refl, (refl, (refl, tt))))));
      read = λ place. rw (declaration_read len (place + 4 + 1) r new.name new.some, declared_new q r _ _ _ new, test) refl;
    }

pub creg_reads : (len : ℕ) (q : ProgramParts) (r : RegisterParts) → IsNew q r → total_size q.cregs + r.size ≤ 4096 → Reads len q (register_line (codes "creg") r) (record q { cregs = q.cregs ++ r ∷ [] })
unfolding register_line indexed lexemes_at with_statement with_words with_creg
creg_reads len q r new room =
    let test : nat_lt 4096 (total_size q.cregs + r.size) ≡ false = grind (arith, nat_tests) in
    record {
      body = word (codes "creg") ∷ blank ∷ indexed r.name r.size;
      ends = refl;
      inside = (refl, (refl, (refl, (refl, (refl, (refl, tt))))));
      read = λ place. rw (declaration_read len (place + 4 + 1) r new.name new.some, declared_new q r _ _ _ new, test) refl;
    }
