-- Operands after commas, one after the other.
use Rattle.std.proofs.Common.{◌≡◌, ℕ, suc, ◌+◌, cond, count_by, List, [], ◌∷◌, ◌++◌, refl, sym, ap, append_assoc}
use Rattle.std.proofs.lemmas.List.Folds.{fold-map}
use Rattle.std.specs.Prelude.{Result, Ok, Err}
use Rattle.std.proofs.lemmas.List.{append-nil}
use Rattle.qz_circ.specs.declared.token.Token.{Token}
use Rattle.qz_circ.specs.declared.fault.QasmFault.{QasmFault}
use Rattle.qz_circ.specs.FirstFault.{◌>>=◌}
use Rattle.qz_circ.specs.Lexemes.{Lexeme, lexeme, lexemes, kind_of, is_semicolon}
use Rattle.qz_circ.specs.Forms.{Read, Operand, token, is_comma, operand_form, more_operands_form}
use Rattle.qz_qread.specs.FormParts.{next_operand}

-- these operands, those that are read, and a semicolon
abbrev pub ended : ℕ → List Operand → Read (List Operand) → Result (List Operand) QasmFault
ended len xs others = do
  x ← others
  end ← token is_semicolon len x.1
  Ok (xs ++ x.0)

-- steps after steps
bind_assoc : {A B C : Type 0} (r : Result A QasmFault) (f : A → Result B QasmFault) (g : B → Result C QasmFault) → ((r >>= f) >>= g) ≡ (r >>= (λ x. f x >>= g))
bind_assoc (Ok x) f g = refl
bind_assoc (Err e) f g = refl

-- an operand before others
abbrev with_operand : Operand → Read (List Operand) → Read (List Operand)
with_operand o others = others >>= (λ x. Ok (o ∷ x.0, x.1))

more_step : (len k : ℕ) (ls : List Lexeme) → more_operands_form (suc k) len ls ≡ (next_operand len ls >>= (λ o. with_operand o.0 (more_operands_form k len o.1)))
unfolding more_operands_form
more_step len k ls = sym (bind_assoc (token is_comma len ls) (λ comma. operand_form len comma.1) (λ o. with_operand o.0 (more_operands_form k len o.1)))

ended_more : (len : ℕ) (xs : List Operand) (o : Operand) (others : Read (List Operand)) → ended len (xs ++ o ∷ []) others ≡ ended len xs (with_operand o others)
ended_more len xs o (Ok (os, rest)) = ap (λ zs. token is_semicolon len rest >>= (λ end. Ok zs)) (append_assoc xs (o ∷ []) os)
ended_more len xs o (Err e) = refl

-- one operand more
pub operands_go : (len n k : ℕ) (ls : List Lexeme) (xs : List Operand) (o : Operand) (rest : List Lexeme) → n ≡ suc k → next_operand len ls ≡ Ok (o, rest) → ended len (xs ++ o ∷ []) (more_operands_form k len rest) ≡ ended len xs (more_operands_form n len ls)
operands_go len n k ls xs o rest more is = rw (more, more_step len k ls, is) (ended_more len xs o (more_operands_form k len rest))

-- the operand's fault
pub operands_fail : (len n k : ℕ) (ls : List Lexeme) (xs : List Operand) (e : QasmFault) → n ≡ suc k → next_operand len ls ≡ Err e → ended len xs (more_operands_form n len ls) ≡ Err e
operands_fail len n k ls xs e more is = rw (more, more_step len k ls, is) refl

-- no operand more
pub operands_end : (len n : ℕ) (ls : List Lexeme) (xs : List Operand) → n ≡ 0 → ended len xs (more_operands_form n len ls) ≡ (token is_semicolon len ls >>= (λ end. Ok xs))
unfolding more_operands_form
operands_end len n ls xs none = rw (none, append-nil xs) refl

-- the commas of tokens
pub commas_of : (bytes : List ℕ) (ts : List Token) → count_by (λ l. is_comma (kind_of l)) (lexemes bytes ts) ≡ count_by (λ t. is_comma t.kind) ts
commas_of bytes ts = fold-map (λ n l. n + cond (is_comma (kind_of l)) 1 0) (lexeme bytes) 0 ts
