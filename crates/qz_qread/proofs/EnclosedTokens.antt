-- The tokens before a parenthesis that closes, one after the other.
use Rattle.std.proofs.Common.{◌≡◌, ℕ, ◌+◌, ◌-◌, ◌<◌, ◌≤◌, ◌==◌, ◌&&◌, not, Bool, true, false, if◌then◌else◌, List, [], ◌∷◌, ◌++◌, length, take, drop, get_or, refl, ◌∙◌, ap, append_assoc}
use Rattle.std.specs.Prelude.{Ok, Err}
use Rattle.std.proofs.lemmas.List.{drop_more, drop_all, take_more, map-append, append-nil}
use Rattle.std.proofs.lemmas.Bool.{and_parts}
use Rattle.qz_circ.specs.declared.token.Token.{Token}
use Rattle.qz_circ.specs.declared.token.Kind.{Kind}
use Rattle.qz_circ.specs.declared.token.Kind.TheVariants.{RightParen}
use Rattle.qz_circ.specs.declared.fault.QasmFault.TheVariants as fault
use Rattle.qz_circ.specs.FirstFault.{◌>>=◌}
use Rattle.qz_circ.specs.Lexemes.{Lexeme, lexeme, lexemes, kind_of, is_semicolon}
use Rattle.qz_circ.specs.Forms.{Read, is_left_paren, is_right_paren, with_lexeme, enclosed}

-- these tokens, before those that are read
abbrev pub with_tokens : List Lexeme → Read (List Lexeme) → Read (List Lexeme)
with_tokens xs others = others >>= (λ x. Ok (xs ++ x.0, x.1))

-- how many more are open behind a token that doesn't close
abbrev pub open_behind : ℕ → Kind → ℕ
open_behind more_open kind =
    if is_left_paren kind then more_open + 1
    else if not (is_right_paren kind) then more_open
    else more_open - 1

-- one token more
with_tokens-more : (xs : List Lexeme) (l : Lexeme) (others : Read (List Lexeme)) → with_tokens (xs ++ l ∷ []) others ≡ with_tokens xs (with_lexeme l others)
with_tokens-more xs l (Ok (more, rest)) = ap (λ x. Ok (x, rest)) (append_assoc xs (l ∷ []) more)
with_tokens-more xs l (Err e) = refl

-- a token that doesn't close
choice : {A : Type 0} (left right none : Bool) (a b c d : A) → (right && none) ≡ false → (if left then a else if not right then b else if none then c else d) ≡ (if left then a else if not right then b else d)
choice true right none a b c d other = refl
choice false false none a b c d other = refl
choice false true false a b c d other = refl
choice false true true a b c d other = cc

joined : (left right : Bool) (l : Lexeme) (len : ℕ) (ls : List Lexeme) (a b c : ℕ) →
    (if left then with_lexeme l (enclosed a len ls) else if not right then with_lexeme l (enclosed b len ls) else with_lexeme l (enclosed c len ls))
    ≡ with_lexeme l (enclosed (if left then a else if not right then b else c) len ls)
joined true right l len ls a b c = refl
joined false false l len ls a b c = refl
joined false true l len ls a b c = refl

goes : (more_open len : ℕ) (l : Lexeme) (ls : List Lexeme) → is_semicolon (kind_of l) ≡ false → (is_right_paren (kind_of l) && more_open == 0) ≡ false → enclosed more_open len (l ∷ ls) ≡ with_lexeme l (enclosed (open_behind more_open (kind_of l)) len ls)
unfolding enclosed
goes more_open len l ls plain other = rw plain (choice (is_left_paren (kind_of l)) (is_right_paren (kind_of l)) (more_open == 0) _ _ _ _ other ∙ joined (is_left_paren (kind_of l)) (is_right_paren (kind_of l)) l len ls (more_open + 1) more_open (more_open - 1))

-- the reading goes on behind such a token
pub enclosed_goes : (bytes : List ℕ) (len : ℕ) (ts : List Token) (n : ℕ) (d : Token) (more_open next : ℕ) → n < length ts → is_semicolon (get_or ts n d).kind ≡ false → (is_right_paren (get_or ts n d).kind && more_open == 0) ≡ false → next ≡ open_behind more_open (get_or ts n d).kind → with_tokens (lexemes bytes (take (n + 1) ts)) (enclosed next len (lexemes bytes (drop (n + 1) ts))) ≡ with_tokens (lexemes bytes (take n ts)) (enclosed more_open len (lexemes bytes (drop n ts)))
enclosed_goes bytes len ts n d more_open next within plain other is =
    let t = get_or ts n d in
    let rest = lexemes bytes (drop (n + 1) ts) in
    rw (is, take_more ts n d within, drop_more ts n d within, goes more_open len (lexeme bytes t) rest plain other, map-append (lexeme bytes) (take n ts) (t ∷ []))
    (with_tokens-more (lexemes bytes (take n ts)) (lexeme bytes t) (enclosed (open_behind more_open t.kind) len rest))

-- a semicolon is refused
pub enclosed_fails : (bytes : List ℕ) (len : ℕ) (ts : List Token) (n : ℕ) (d : Token) (more_open : ℕ) (xs : List Lexeme) → n < length ts → is_semicolon (get_or ts n d).kind ≡ true → with_tokens xs (enclosed more_open len (lexemes bytes (drop n ts))) ≡ Err (fault.Syntax (get_or ts n d).start)
unfolding enclosed
enclosed_fails bytes len ts n d more_open xs within is = rw (drop_more ts n d within, is) refl

right_alone : (kind : Kind) → is_right_paren kind ≡ true → (is_semicolon kind ≡ false) × (is_left_paren kind ≡ false)
right_alone RightParen is = (refl, refl)
right_alone _ is = absurd (cc)

-- the parenthesis that closes
pub enclosed_closes : (bytes : List ℕ) (len : ℕ) (ts : List Token) (n : ℕ) (d : Token) (more_open : ℕ) (xs : List Lexeme) → n < length ts → (is_right_paren (get_or ts n d).kind && more_open == 0) ≡ true → with_tokens xs (enclosed more_open len (lexemes bytes (drop n ts))) ≡ Ok (xs, lexemes bytes (drop (n + 1) ts))
unfolding enclosed
enclosed_closes bytes len ts n d more_open xs within is =
    let t = get_or ts n d in
    let parts = and_parts (is_right_paren t.kind) (more_open == 0) is in
    let alone = right_alone t.kind parts.0 in
    rw (drop_more ts n d within, alone.0, alone.1, parts.0, parts.1, append-nil xs) refl

-- the tokens run out
pub enclosed_ends : (bytes : List ℕ) (len : ℕ) (ts : List Token) (n : ℕ) (more_open : ℕ) (xs : List Lexeme) → length ts ≤ n → with_tokens xs (enclosed more_open len (lexemes bytes (drop n ts))) ≡ Err (fault.Syntax len)
unfolding enclosed
enclosed_ends bytes len ts n more_open xs all = rw (drop_all n ts all) refl
