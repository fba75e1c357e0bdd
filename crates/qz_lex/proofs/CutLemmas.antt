-- The tokens of a text stand in order, each with its text, with nothing but gaps between them.
use Rattle.std.proofs.Common.{◌≡◌, ◌≢◌, ℕ, zero, suc, ◌+◌, ◌-◌, ◌<◌, ◌≤◌, List, [], ◌∷◌, length, drop, refl, sym, ◌∙◌, ap, subst, arith}
use Rattle.std.specs.Prelude.{Ok, Err, Option, Some, None, Result}
use Rattle.std.proofs.lemmas.List.{length-drop, drop-drop}
use Rattle.qz_circ.specs.declared.token.Token.{Token}
use Rattle.qz_circ.specs.declared.token.Kind.{Kind}
use Rattle.qz_circ.specs.declared.fault.LexFault.{LexFault}
use Rattle.qz_circ.specs.declared.fault.LexFault.TheVariants.{Memory}
use Rattle.qz_circ.specs.FirstFault.{◌>>=◌}
use Rattle.qz_circ.specs.Tokens.{Front, decimal_length, one_byte_sign, sign, front, with_token, tokens_from, tokens_of}
use Rattle.qz_circ.specs.TokenTexts.{IsTextOf, IsLongest, IsRight, IsWithinLimit, AreGaps, AreInOrder, IsCut}
use Rattle.qz_lex.proofs.LongestLemmas.{reaches}
use Rattle.qz_lex.proofs.FrontLemmas.{front_right}

-- the same from a place on
abbrev IsCutFrom : List ℕ → ℕ → Result (List Token) LexFault → Type 0
IsCutFrom z from (Ok ts) = AreInOrder z from (length z) ts
IsCutFrom z from (Err e) = (ts : List Token) × (place : ℕ) × AreInOrder z from place ts × IsRight place (drop place z) (Err e)

-- a gap before other gaps
gap_before : (z : List ℕ) (from n to : ℕ) → IsLongest None n (drop from z) → AreGaps z (from + n) to → AreGaps z from to
gap_before z from n to here gaps = (n ∷ gaps.0, (here, gaps.1))

-- a gap before tokens
after_gap : (z : List ℕ) (from n to : ℕ) (ts : List Token) → IsLongest None n (drop from z) → AreInOrder z (from + n) to ts → AreInOrder z from to ts
after_gap z from n to [] here gaps = gap_before z from n to here gaps
after_gap z from n to (t ∷ ts) here order = (omega (arith, order.0), gap_before z from n t.start here order.1, order.2, order.3)

-- what stands at the front of a rest, before the tokens behind it
in_order : (z : List ℕ) (place to : ℕ) (first : Front) (ts : List Token) → IsRight place (drop place z) (Ok first) → AreInOrder z (place + first.1) to ts → AreInOrder z place to (with_token place first ts)
in_order z place to (None, n) ts right others = after_gap z place n to ts right others
in_order z place to (Some kind, n) ts right others =
    let len : n ≡ place + n - place = omega arith in
    let own = subst (λ (k : ℕ). IsLongest (Some kind) k (drop place z) × IsWithinLimit kind k) len right in
    (omega arith, ([], refl), own, others)

first_cut : (z : List ℕ) (place : ℕ) (first : Front) (others : Result (List Token) LexFault) → IsRight place (drop place z) (Ok first) → IsCutFrom z (place + first.1) others → IsCutFrom z place (others >>= (λ ts. Ok (with_token place first ts)))
first_cut z place first (Ok ts) right cut = in_order z place (length z) first ts right cut
first_cut z place first (Err e) right cut = (with_token place first cut.0, cut.1, in_order z place cut.1 first cut.0 right cut.2, cut.3)

-- the tokens from a place on, once what is found there is right
next_cut : (z y : List ℕ) (place : ℕ) (r : Result Front LexFault) (others : Front → Result (List Token) LexFault) → drop place z ≡ y → IsRight place y r → ((first : Front) → IsRight place y (Ok first) → IsCutFrom z (place + first.1) (others first)) → IsCutFrom z place (r >>= (λ first. others first >>= (λ ts. Ok (with_token place first ts))))
next_cut z y place (Ok first) others there right rest = first_cut z place first (others first) (subst (λ x. IsRight place x (Ok first)) (sym there) right) (rest first right)
next_cut z y place (Err e) others there right rest = ([], place, ([], refl), subst (λ x. IsRight place x (Err e)) (sym there) right)

-- no token and no gap is empty
pub no_bytes : (what : Option Kind) → IsTextOf what [] → ⊥
unfolding front decimal_length sign one_byte_sign
no_bytes what h = reaches 0 what [] [] h

some_bytes : (what : Option Kind) (n : ℕ) (z : List ℕ) → IsLongest what n z → 0 < n
some_bytes what zero z h = absurd (no_bytes what h.fits)
some_bytes what (suc n) z h = omega arith

-- at least one byte is taken, and only what the text has
some_taken : (place : ℕ) (z : List ℕ) (first : Front) → IsRight place z (Ok first) → (0 < first.1) × (first.1 ≤ length z)
some_taken place z (Some kind, n) right = (some_bytes (Some kind) n z right.0, right.0.within)
some_taken place z (None, n) right = (some_bytes None n z right, right.within)

-- one byte more is passed over
drop_more : (place : ℕ) (z : List ℕ) (b : ℕ) (y : List ℕ) → drop place z ≡ b ∷ y → drop (place + 1) z ≡ y
drop_more place z b y is = sym (drop-drop 1 place z) ∙ ap (λ x. drop 1 x) is

cut_from : (z : List ℕ) (taken place : ℕ) (y : List ℕ) → drop place z ≡ y → place + taken ≤ length z → IsCutFrom z (place + taken) (tokens_from taken place y)
unfolding tokens_from
cut_from z taken place [] there within =
    let none : length z - place ≡ 0 = sym (length-drop place z) ∙ ap length there in
    ([], omega (arith, none))
cut_from z (suc taken) place (b ∷ y) there within =
    let more : place + 1 + taken ≡ place + suc taken = omega arith in
    subst (λ k. IsCutFrom z k (tokens_from taken (place + 1) y)) more (cut_from z taken (place + 1) y (drop_more place z b y there) (omega arith))
cut_from z zero place (b ∷ y) there within =
    let here : place ≡ place + 0 = omega arith in
    let len : length z - place ≡ suc (length y) = sym (length-drop place z) ∙ ap length there in
    subst (λ k. IsCutFrom z k (tokens_from 0 place (b ∷ y))) here
    (next_cut z (b ∷ y) place (front place (b ∷ y)) (λ first. tokens_from (first.1 - 1) (place + 1) y) there (front_right place (b ∷ y) (omega arith))
    (λ first right. (let some = some_taken place (b ∷ y) first right in
    let same : place + 1 + (first.1 - 1) ≡ place + first.1 = omega (arith, some.0) in
    subst (λ k. IsCutFrom z k (tokens_from (first.1 - 1) (place + 1) y)) same
    (cut_from z (first.1 - 1) (place + 1) y (drop_more place z b y there) (omega (arith, some.0, some.1, len))))))

whole : (z : List ℕ) (r : Result (List Token) LexFault) → IsCutFrom z 0 r → IsCut z r
whole z (Ok ts) cut = cut
whole z (Err e) cut = cut

pub tokens_in_order : (z : List ℕ) → IsCut z (tokens_of z)
unfolding tokens_of
tokens_in_order z = whole z (tokens_from 0 0 z) (cut_from z 0 0 z refl (omega arith))

-- want of memory is no fault of a text
pub no_text_lacks_memory : (z : List ℕ) → tokens_of z ≢ Err Memory
no_text_lacks_memory z is = (subst (IsCut z) is (tokens_in_order z)).3
