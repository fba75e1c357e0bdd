-- Angles in pieces: what their tokens mean, and where they end, wherever they stand.
use Rattle.std.proofs.Common.{◌≡◌, ℕ, ◌+◌, ◌-◌, ◌<◌, ◌≤◌, ◌==◌, nat_lt, Bool, true, false, cond, List, [], ◌∷◌, ◌++◌, length, get_or, map, codes, Option, Some, None, refl, sym, ap, ◌∙◌, arith}
use Rattle.std.specs.Prelude.{Result, Ok}
use Rattle.std.specs.List.{range_with_len, list_all, AllByRecursion}
use Rattle.std.proofs.lemmas.Bool.{and_parts}
use Rattle.std.proofs.lemmas.List.FromFn.{get_or-map-range_with_len}
use Rattle.qz_circ.specs.declared.fault.AngleFault.{AngleFault}
use Rattle.qz_circ.specs.declared.token.Kind.{Kind}
use Rattle.qz_circ.specs.declared.token.Kind.TheVariants.{Semicolon, LeftParen, RightParen, Minus, Star, Slash}
use Rattle.qz_circ.specs.Angle.{angle_of, unary, turns_of, all_read, end_of, most_nested, with_operators, chain, closed, negated, combined, quotient_of, product_of, sum_of, in_range, greatest_divisor, divisor_up_to, largest}
use Rattle.qz_circ.specs.ProgramText.{lowest_terms}
use Rattle.qz_circ.specs.Lexemes.{Lexeme, kind_of, is_semicolon}
use Rattle.qz_circ.specs.Forms.{is_left_paren, is_right_paren, one, enclosed, angle_form}
use Rattle.qz_circ.proofs.RisingLists.{each_weaker}
use Rattle.qz_qread.proofs.LinesRead.{no_semicolon, AreInside}
use Rattle.qz_qread.proofs.Pieces.{Piece, with_piece, lexemes_at, pi, whole, sign, angle, positive_angle, multiple, divisor}

-- ---- the value of an angle

-- what the tokens of an angle mean, from a place on
unfoldable meaning_at : ℕ → ℕ → Result ℕ AngleFault
meaning_at place k = angle_of (map (λ l. l.token) (lexemes_at place (angle k)))

-- each of them computes
all_meanings : (place : ℕ) → map (meaning_at place) (range_with_len 1 511) ≡ map (λ k. Ok k) (range_with_len 1 511)
unfolding meaning_at angle_of unary turns_of all_read end_of most_nested with_operators chain closed negated combined quotient_of product_of sum_of in_range greatest_divisor divisor_up_to largest lowest_terms lexemes_at angle positive_angle multiple divisor
all_meanings place = refl

-- functions that agree on a range agree at each of its numbers
same_at : {X : Type 0} (f g : ℕ → X) (n k : ℕ) → map f (range_with_len 1 n) ≡ map g (range_with_len 1 n) → 1 ≤ k → k < n + 1 → f k ≡ g k
same_at f g n k same above within =
    let left = get_or-map-range_with_len f 1 n (k - 1) k (f k) (omega arith) (omega arith) in
    let right = get_or-map-range_with_len g 1 n (k - 1) k (f k) (omega arith) (omega arith) in
    sym left ∙ ap (λ xs. get_or xs (k - 1) (f k)) same ∙ right

pub angle_means : (place k : ℕ) → 1 ≤ k → k < 512 → angle_of (map (λ l. l.token) (lexemes_at place (angle k))) ≡ Ok k
unfolding meaning_at
angle_means place k above within = same_at (meaning_at place) (λ k. Ok k) 511 k (all_meanings place) above within

-- ---- the form of an angle

-- neither a semicolon nor a parenthesis
abbrev is_inner_kind : Kind → Bool
is_inner_kind Semicolon = false
is_inner_kind LeftParen = false
is_inner_kind RightParen = false
is_inner_kind _ = true

abbrev is_inner : Lexeme → Bool
is_inner l = is_inner_kind (kind_of l)

abbrev is_inner_piece : Option Kind → Bool
is_inner_piece (Some kind) = is_inner_kind kind
is_inner_piece None = true

abbrev AreInner : List Piece → Type 0
AreInner ps = AllByRecursion (λ p. is_inner_piece p.kind ≡ true) ps

inner_kind : (kind : Kind) → is_inner_kind kind ≡ true → (is_semicolon kind ≡ false) × (is_left_paren kind ≡ false) × (is_right_paren kind ≡ false)
inner_kind Semicolon h = cc
inner_kind LeftParen h = cc
inner_kind RightParen h = cc
inner_kind _ h = (refl, refl, refl)

-- a multiple of pi, with a divisor or without one
inner_fraction : (a b : ℕ) (t u : Bool) → AreInner (cond t (pi ∷ []) (whole a ∷ sign Star (codes "*") ∷ pi ∷ []) ++ cond u [] (sign Slash (codes "/") ∷ whole b ∷ []))
inner_fraction a b true true = (refl, tt)
inner_fraction a b true false = (refl, (refl, (refl, tt)))
inner_fraction a b false true = (refl, (refl, (refl, tt)))
inner_fraction a b false false = (refl, (refl, (refl, (refl, (refl, tt)))))

inner_positive : (m : ℕ) → AreInner (positive_angle m)
unfolding positive_angle multiple divisor
inner_positive m = let (a, b) = lowest_terms 8 m in inner_fraction a b (a == 1) (b == 1)

inner_signed : (m n : ℕ) (t : Bool) → AreInner (cond t (sign Minus (codes "-") ∷ positive_angle m) (positive_angle n))
inner_signed m n true = (refl, inner_positive m)
inner_signed m n false = inner_positive n

angle_inner : (k : ℕ) → AreInner (angle k)
unfolding angle
angle_inner k = inner_signed (512 - k) k (nat_lt 256 k)

inner_not_semicolon : (kind : Option Kind) → is_inner_piece kind ≡ true → no_semicolon kind ≡ true
inner_not_semicolon (Some kind) h = rw (inner_kind kind h).0 refl
inner_not_semicolon None h = refl

pub angle_inside : (k : ℕ) → AreInside (angle k)
angle_inside k = each_weaker (λ p. is_inner_piece p.kind ≡ true) (λ p. no_semicolon p.kind ≡ true) (λ p. inner_not_semicolon p.kind) (angle k) (angle_inner k)

inner_with : (kind : Option Kind) (place : ℕ) (text : List ℕ) (ls : List Lexeme) → is_inner_piece kind ≡ true → list_all is_inner ls ≡ true → list_all is_inner (with_piece place kind text ls) ≡ true
inner_with (Some kind) place text ls h more = rw (h, more) refl
inner_with None place text ls h more = more

inner_tokens : (place : ℕ) (ps : List Piece) → AreInner ps → list_all is_inner (lexemes_at place ps) ≡ true
unfolding lexemes_at
inner_tokens place [] inner = refl
inner_tokens place (p ∷ ps) inner = inner_with p.kind place p.text _ inner.0 (inner_tokens (place + length p.text) ps inner.1)

-- such tokens end at the first parenthesis behind them
inner_enclosed : (len : ℕ) (ls : List Lexeme) (closing : Lexeme) (rest : List Lexeme) → list_all is_inner ls ≡ true → kind_of closing ≡ RightParen → enclosed 0 len (ls ++ closing ∷ rest) ≡ Ok (ls, rest)
unfolding enclosed
inner_enclosed len [] closing rest inner close = rw close refl
inner_enclosed len (l ∷ ls) closing rest inner close =
    let parts = and_parts (is_inner l) (list_all is_inner ls) inner in
    let kind = inner_kind (kind_of l) parts.0 in
    let more = inner_enclosed len ls closing rest parts.1 close in
    rw (kind.0, kind.1, kind.2, more) refl

-- no tokens have no value
some_tokens : (k : ℕ) → angle_of [] ≡ Ok k → ⊥
unfolding angle_of unary most_nested with_operators
some_tokens k h = cc

inner_form : (len k : ℕ) (opening : Lexeme) (ls : List Lexeme) (closing : Lexeme) (rest : List Lexeme) → is_left_paren (kind_of opening) ≡ true → list_all is_inner ls ≡ true → angle_of (map (λ l. l.token) ls) ≡ Ok k → kind_of closing ≡ RightParen → angle_form len (opening ∷ (ls ++ closing ∷ rest)) ≡ Ok (ls, rest)
unfolding angle_form one
inner_form len k opening [] closing rest opens inner means close = absurd (some_tokens k means)
inner_form len k opening (l ∷ ls) closing rest opens inner means close =
    let kind = inner_kind (kind_of l) (and_parts (is_inner l) (list_all is_inner ls) inner).0 in
    let read = inner_enclosed len (l ∷ ls) closing rest inner close in
    rw (opens, kind.2, read) refl

-- an angle in parentheses is read as its tokens
pub angle_read : (len place k : ℕ) (opening closing : Lexeme) (rest : List Lexeme) → 1 ≤ k → k < 512 → is_left_paren (kind_of opening) ≡ true → kind_of closing ≡ RightParen → angle_form len (opening ∷ (lexemes_at place (angle k) ++ closing ∷ rest)) ≡ Ok (lexemes_at place (angle k), rest)
angle_read len place k opening closing rest above within opens close = inner_form len k opening _ closing rest opens (inner_tokens place (angle k) (angle_inner k)) (angle_means place k above within) close
