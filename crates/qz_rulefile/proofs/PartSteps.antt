-- What the loops over texts and digits keep.
use Rattle.std.proofs.Common.{◌≡◌, ℕ, suc, ◌+◌, ◌*◌, ◌-◌, ◌≤◌, ◌<◌, Bool, true, false, eqb, ltb, leb, max, ◌&&◌, List, [], ◌∷◌, ◌++◌, length, drop, get_or, Option, Some, None, option_map, Ok, Err, refl, sym, ap, ◌∙◌, arith}
use Rattle.std.specs.Option.{ok_or}
use Rattle.std.proofs.lemmas.Bool.{eq-eqb, ne_eqb, ltb-true}
use Rattle.std.proofs.lemmas.List.{drop_all, drop_more}
use Rattle.std.specs.Global.{Vec}
use Rattle.std.proofs.lemmas.List.{get_or-map, length-map}
use Rattle.std.proofs.lemmas.Option.{slice_get-get_or}
use Rattle.qz_rulefile.specs.Reading.{common, shared, first_text, one_of_at, are_apart, digits_at}
use Rattle.qz_circ.specs.Vectors.{lists_of}
use Rattle.qz_rulefile.proofs.OneOf.{whole_begins, first_text_again}

-- one byte more is shared
pub one_more_shared : (text bytes : List ℕ) (n : ℕ) → n < length text → n < length bytes → get_or text n 0 ≡ get_or bytes n 0 → n + common (drop n text) (drop n bytes) ≡ n + 1 + common (drop (n + 1) text) (drop (n + 1) bytes)
unfolding common
one_more_shared text bytes n lt lb e =
    let yes : eqb (get_or text n 0) (get_or bytes n 0) ≡ true = eq-eqb (get_or text n 0) (get_or bytes n 0) e in
    rw (drop_more text n 0 lt, drop_more bytes n 0 lb, yes) (omega arith)

-- nothing more is shared where a text ends or the bytes differ
pub text_ended : (text bytes : List ℕ) (n : ℕ) → length text ≤ n → common (drop n text) (drop n bytes) ≡ 0
unfolding common
text_ended text bytes n le = rw (drop_all n text le) refl

pub bytes_ended : (text bytes : List ℕ) (n : ℕ) → length bytes ≤ n → common (drop n text) (drop n bytes) ≡ 0
unfolding common
bytes_ended text bytes n le = rw (drop_all n bytes le) (nothing (drop n text))
  where
    nothing : (xs : List ℕ) → common xs [] ≡ 0
    nothing [] = refl
    nothing (x ∷ xs) = refl

pub bytes_differ : (text bytes : List ℕ) (n : ℕ) → n < length text → n < length bytes → (get_or text n 0 ≡ get_or bytes n 0 → ⊥) → common (drop n text) (drop n bytes) ≡ 0
unfolding common
bytes_differ text bytes n lt lb ne = rw (drop_more text n 0 lt, drop_more bytes n 0 lb, ne_eqb (get_or text n 0) (get_or bytes n 0) ne) refl

-- ---- texts in turn

-- what is found from a place on, by its number among all
abbrev pub found_from : ℕ → Option (ℕ × List ℕ) → Option (ℕ × List ℕ)
found_from k o = option_map (λ found. (k + found.0, found.1)) o

found_from-zero : (o : Option (ℕ × List ℕ)) → found_from 0 o ≡ o
found_from-zero None = refl
found_from-zero (Some x) = let none : 0 + x.0 ≡ x.0 = omega arith in ap (λ n. Some (n, x.1)) none

found_from-suc : (k : ℕ) (o : Option (ℕ × List ℕ)) → found_from k (option_map (λ found. (suc found.0, found.1)) o) ≡ found_from (k + 1) o
found_from-suc k None = refl
found_from-suc k (Some x) = let moved : k + suc x.0 ≡ k + 1 + x.0 = omega arith in ap (λ n. Some (n, x.1)) moved

pub from_start : (texts : List (List ℕ)) (bytes : List ℕ) → found_from 0 (first_text (drop 0 texts) bytes) ≡ first_text texts bytes
from_start texts bytes = found_from-zero (first_text texts bytes)

-- the text at a place isn't the one
pub not_here : (texts : List (List ℕ)) (bytes : List ℕ) (k : ℕ) → k < length texts → (common (get_or texts k []) bytes ≡ length (get_or texts k []) → ⊥) → found_from k (first_text (drop k texts) bytes) ≡ found_from (k + 1) (first_text (drop (k + 1) texts) bytes)
unfolding first_text
not_here texts bytes k lt ne =
    rw (drop_more texts k [] lt, ne_eqb (common (get_or texts k []) bytes) (length (get_or texts k [])) ne) (found_from-suc k (first_text (drop (k + 1) texts) bytes))

-- the text at a place is the one
pub found_here : (texts : List (List ℕ)) (bytes : List ℕ) (k : ℕ) → k < length texts → common (get_or texts k []) bytes ≡ length (get_or texts k []) → found_from k (first_text (drop k texts) bytes) ≡ Some (k, drop (length (get_or texts k [])) bytes)
unfolding first_text
found_here texts bytes k lt e =
    let same : k + 0 ≡ k = omega arith in
    rw (drop_more texts k [] lt, eq-eqb (common (get_or texts k []) bytes) (length (get_or texts k [])) e, same) refl

-- none is left
pub none_left : (texts : List (List ℕ)) (bytes : List ℕ) (k : ℕ) → length texts ≤ k → found_from k (first_text (drop k texts) bytes) ≡ None
unfolding first_text
none_left texts bytes k le = rw (drop_all k texts le) refl

-- the most bytes that are shared, with one text more
pub more_shared : (texts : List (List ℕ)) (bytes : List ℕ) (k most : ℕ) → k < length texts → max most (shared (drop k texts) bytes) ≡ max (max most (common (get_or texts k []) bytes)) (shared (drop (k + 1) texts) bytes)
unfolding shared
more_shared texts bytes k most lt =
    rw (drop_more texts k [] lt) (omega arith)

pub all_shared : (texts : List (List ℕ)) (bytes : List ℕ) (k most : ℕ) → length texts ≤ k → max most (shared (drop k texts) bytes) ≡ most
unfolding shared
all_shared texts bytes k most le = rw (drop_all k texts le) (omega arith)

-- ---- the rest of a number, byte by byte

abbrev pub is_last : ℕ → ℕ → ℕ → ℕ → Bool
is_last stop low value b = eqb b stop && leb low value

abbrev pub is_more : ℕ → ℕ → Bool
is_more value b = ltb 0 value && ltb value 100000000 && leb 48 b && ltb b 58

pub digits_end : (stop low value b : ℕ) (rest behind : List ℕ) → rest ≡ b ∷ behind → is_last stop low value b ≡ true → digits_at stop low value rest ≡ Ok (value, behind)
unfolding digits_at
digits_end stop low value b rest behind e t = rw (e, t) refl

pub digits_more : (stop low value b : ℕ) (rest behind : List ℕ) → rest ≡ b ∷ behind → is_last stop low value b ≡ false → is_more value b ≡ true → digits_at stop low value rest ≡ digits_at stop low (value * 10 + (b - 48)) behind
unfolding digits_at
digits_more stop low value b rest behind e t u = rw (e, t, u) refl

pub digits_fault : (stop low value b : ℕ) (rest behind : List ℕ) → rest ≡ b ∷ behind → is_last stop low value b ≡ false → is_more value b ≡ false → digits_at stop low value rest ≡ Err (length rest)
unfolding digits_at
digits_fault stop low value b rest behind e t u = rw (e, t, u) refl

pub digits_none : (stop low value : ℕ) (rest : List ℕ) → length rest ≡ 0 → digits_at stop low value rest ≡ Err 0
unfolding digits_at
digits_none stop low value [] e = refl
digits_none stop low value (b ∷ rest) e = absurd (omega arith)

pub more_bounds : (value b : ℕ) → is_more value b ≡ true → (value < 100000000) × (b < 58)
more_bounds value b e = by_tests (ltb 0 value) (ltb value 100000000) (leb 48 b) (ltb b 58) e (ltb-true value 100000000) (ltb-true b 58)
  where
    by_tests : {P Q : Type 0} (a b c d : Bool) → (a && b && c && d) ≡ true → (b ≡ true → P) → (d ≡ true → Q) → P × Q
    by_tests true true true true e p q = (p refl, q refl)
    by_tests true true true false e p q = absurd cc
    by_tests true true false d e p q = absurd cc
    by_tests true false c d e p q = absurd cc
    by_tests false b c d e p q = absurd cc

-- ---- texts that are kept as vectors

pub text_kept : (texts : List (Vec ℕ)) (k : ℕ) (text : Vec ℕ) → k < length texts → text ≡ get_or texts k text → text.items ≡ get_or (lists_of texts) k []
text_kept texts k text lt e = ap (λ (v : Vec ℕ). v.items) e ∙ sym (get_or-map (λ (v : Vec ℕ). v.items) texts k text [] lt)

pub texts_len : (texts : List (Vec ℕ)) → length (lists_of texts) ≡ length texts
texts_len texts = length-map texts (λ (v : Vec ℕ). v.items)

-- a text that the bytes share whole is found by a reader
pub guessed : (texts : List (List ℕ)) (bytes rest : List ℕ) (k : ℕ) → are_apart texts ≡ true → k < length texts → common (get_or texts k []) bytes ≡ length (get_or texts k []) → rest ≡ drop (length (get_or texts k [])) bytes → one_of_at texts bytes ≡ Ok (k, rest)
unfolding one_of_at
guessed texts bytes rest k apart lt e r =
    let text = get_or texts k [] in
    let parts : bytes ≡ text ++ rest = whole_begins text bytes e ∙ ap (λ (z : List ℕ). text ++ z) (sym r) in
    let found : first_text texts bytes ≡ Some (k, rest) = ap (first_text texts) parts ∙ first_text_again texts k text rest apart (slice_get-get_or texts k [] lt) in
    ap (λ o. ok_or o (length bytes - shared texts bytes)) found
