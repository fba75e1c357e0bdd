-- Pieces that are cut apart where they end: their tokens are those of their text.
use Rattle.std.proofs.Common.{◌≡◌, ℕ, ◌+◌, ◌-◌, ◌<◌, List, [], ◌∷◌, ◌++◌, length, take, drop, get_or, refl, sym, ap, ◌∙◌, arith, length-append}
use Rattle.std.specs.Prelude.{Ok, Option, Some, None, false}
use Rattle.std.proofs.Math.Seq.{take-append_seam, drop-append_seam}
use Rattle.std.proofs.lemmas.List.{drop-drop}
use Rattle.qz_circ.specs.declared.token.Token.{Token}
use Rattle.qz_circ.specs.declared.token.Kind.{Kind}
use Rattle.qz_circ.specs.Tokens.{Front, front, with_token, tokens_from, tokens_of}
use Rattle.qz_circ.specs.TokenTexts.{Spells}
use Rattle.qz_circ.specs.Lexemes.{Lexeme, lexemes}
use Rattle.qz_lex.proofs.LexLemmas.{with_front, tokens_go, with_front-nil, with_token-append}
use Rattle.qz_lex.proofs.CutLemmas.{no_bytes}
use Rattle.qz_qread.proofs.Pieces.{Piece, text_of, with_piece, lexemes_at}
use Rattle.qz_qread.proofs.ExactFronts.{goes_on, Fits, exact_front}

-- Each piece's text is one of its kind, within its limit, or a gap; and none goes on with the byte behind it, which is this one
-- behind the last piece.
abbrev pub AreSoundBefore : ℕ → List Piece → Type 0
AreSoundBefore next [] = Unit {0}
AreSoundBefore next (p ∷ ps) = Fits p.kind p.text × (goes_on p.kind (get_or (text_of ps) 0 next) ≡ false) × AreSoundBefore next ps

-- the same where nothing stands behind the last piece
abbrev pub AreSound : List Piece → Type 0
AreSound ps = AreSoundBefore 0 ps

-- no token and no gap is empty
spelled_with_bytes : (kind : Kind) (x : List ℕ) → Spells kind x → 0 < length x
spelled_with_bytes kind [] h = absurd (no_bytes (Some kind) h)
spelled_with_bytes kind (b ∷ x) h = omega arith

fits_with_bytes : (kind : Option Kind) (x : List ℕ) → Fits kind x → 0 < length x
fits_with_bytes (Some kind) x h = spelled_with_bytes kind x h.0
fits_with_bytes None x h = h.1

-- the tokens of a text from what is found at its front and the tokens behind it
one_more : (place : ℕ) (first : Front) (z rest : List ℕ) (ts : List Token) → 0 < length z → front place z ≡ Ok first → 0 < first.1 → drop first.1 z ≡ rest → tokens_from 0 (place + first.1) rest ≡ Ok ts → tokens_from 0 place z ≡ Ok (with_token place first ts)
one_more place first z rest ts some is moves behind more =
    sym (with_front-nil (tokens_from 0 place z)) ∙ sym (tokens_go place z first [] some is moves) ∙
    ap (λ y. with_front (with_token place first []) (tokens_from 0 (place + first.1) y)) behind ∙ ap (with_front (with_token place first [])) more ∙
    ap Ok (sym (with_token-append place first ts))

-- the lexemes of a text from a piece that stands at a place and those behind it
one_lexeme : (bytes : List ℕ) (place : ℕ) (kind : Option Kind) (x : List ℕ) (ts : List Token) (ls : List Lexeme) → take (place + length x - place) (drop place bytes) ≡ x → lexemes bytes ts ≡ ls → lexemes bytes (with_token place (kind, length x) ts) ≡ with_piece place kind x ls
one_lexeme bytes place None x ts ls same more = more
one_lexeme bytes place (Some kind) x ts ls same more = λ i. record { token = record { kind = kind; start = place; end = place + length x }; text = same i } ∷ more i

-- what stands at a place of a text and behind it
taken_there : (bytes x rest : List ℕ) (place : ℕ) → drop place bytes ≡ x ++ rest → take (place + length x - place) (drop place bytes) ≡ x
taken_there bytes x rest place there = let same : place + length x - place ≡ length x = omega arith in rw (there, same) (take-append_seam x rest)

left_behind : (bytes x rest : List ℕ) (place : ℕ) → drop place bytes ≡ x ++ rest → drop (place + length x) bytes ≡ rest
left_behind bytes x rest place there = sym (drop-drop (length x) place bytes) ∙ ap (λ z. drop (length x) z) there ∙ drop-append_seam x rest

cut : (bytes : List ℕ) (place : ℕ) (ps : List Piece) → drop place bytes ≡ text_of ps → AreSound ps → (ts : List Token) × (tokens_from 0 place (text_of ps) ≡ Ok ts) × (lexemes bytes ts ≡ lexemes_at place ps)
unfolding tokens_from lexemes_at
cut bytes place [] there sound = ([], refl, refl)
cut bytes place (p ∷ ps) there sound =
    let some = fits_with_bytes p.kind p.text sound.0 in
    let more = cut bytes (place + length p.text) ps (left_behind bytes p.text (text_of ps) place there) sound.2 in (
      with_token place (p.kind, length p.text) more.0,
      one_more place (p.kind, length p.text) (p.text ++ text_of ps) (text_of ps) more.0 (omega (arith, length-append p.text (text_of ps)))
          (exact_front place p.kind p.text (text_of ps) sound.0 sound.1) some (drop-append_seam p.text (text_of ps)) more.1,
      one_lexeme bytes place p.kind p.text more.0 _ (taken_there bytes p.text (text_of ps) place there) more.2,
    )

-- The tokens of the text of sound pieces are those of the pieces.
pub tokens_of_pieces : (ps : List Piece) → AreSound ps → (ts : List Token) × (tokens_of (text_of ps) ≡ Ok ts) × (lexemes (text_of ps) ts ≡ lexemes_at 0 ps)
unfolding tokens_of
tokens_of_pieces ps sound = cut (text_of ps) 0 ps refl sound
