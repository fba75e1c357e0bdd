-- The first statement of some tokens.
use Rattle.std.proofs.Common.{◌≡◌, ℕ, suc, ◌+◌, ◌<◌, ◌≤◌, true, false, if◌then◌else◌, List, [], ◌∷◌, length, take, drop, get_or, refl, ap, arith}
use Rattle.std.proofs.Common.{inl, inr}
use Rattle.std.proofs.lemmas.List.{drop_more, drop_all}
use Rattle.std.proofs.lemmas.Bool.{cases_Bool}
use Rattle.qz_circ.specs.declared.token.Token.{Token}
use Rattle.qz_circ.specs.Lexemes.{lexeme, lexemes, is_semicolon, with_first, statements_of}

-- how many tokens there are up to the first semicolon, and with it
unfoldable pub first_len : List Token → ℕ
first_len [] = 0
first_len (t ∷ ts) = if is_semicolon t.kind then 1 else suc (first_len ts)

-- a semicolon ends them
pub first_len_ends : (ts : List Token) (n : ℕ) (d : Token) → n < length ts → is_semicolon (get_or ts n d).kind ≡ true → n + first_len (drop n ts) ≡ first_len ts → n + 1 ≡ first_len ts
unfolding first_len
first_len_ends ts n d within is all =
    let one : first_len (drop n ts) ≡ 1 = rw (drop_more ts n d within) (rw is refl) in
    omega (arith, one, all)

-- another token goes on
pub first_len_goes : (ts : List Token) (n : ℕ) (d : Token) → n < length ts → is_semicolon (get_or ts n d).kind ≡ false → n + first_len (drop n ts) ≡ first_len ts → n + 1 + first_len (drop (n + 1) ts) ≡ first_len ts
unfolding first_len
first_len_goes ts n d within is all =
    let more : first_len (drop n ts) ≡ suc (first_len (drop (n + 1) ts)) = rw (drop_more ts n d within) (rw is refl) in
    omega (arith, more, all)

-- without a semicolon all tokens are one statement
pub first_len_all : (ts : List Token) (n : ℕ) → length ts ≤ n → n ≤ length ts → n + first_len (drop n ts) ≡ first_len ts → length ts ≡ first_len ts
unfolding first_len
first_len_all ts n all within same =
    let none : first_len (drop n ts) ≡ 0 = rw (drop_all n ts all) refl in
    omega (arith, none, same)

-- the first statement is cut off
pub first_statement : (bytes : List ℕ) (ts : List Token) (n : ℕ) → n ≡ first_len ts → 0 < length ts → statements_of (lexemes bytes ts) ≡ lexemes bytes (take n ts) ∷ statements_of (lexemes bytes (drop n ts))
unfolding first_len statements_of
first_statement bytes [] n is some = absurd (omega arith)
first_statement bytes (t ∷ []) n is some = elim (cases_Bool (is_semicolon t.kind)) [ inl h ↦ rw (is, h) refl | inr h ↦ rw (is, h) refl ]
first_statement bytes (t ∷ u ∷ ts) n is some =
    let others = first_statement bytes (u ∷ ts) (first_len (u ∷ ts)) refl (omega arith) in
    elim (cases_Bool (is_semicolon t.kind)) [
      | inl h ↦ rw (is, h) refl
      | inr h ↦ rw (is, h) (ap (with_first (lexeme bytes t)) others)
    ]
