-- Reading one of some texts is exact, where none of them begins with another.
use Rattle.std.proofs.Common.{◌≡◌, ℕ, zero, suc, ◌+◌, ◌-◌, ◌≤◌, ◌<◌, Bool, true, false, eqb, ltb, ◌&&◌, max, List, [], ◌∷◌, ◌++◌, length, take, drop, Option, Some, None, option_map, slice_get, Ok, Err, refl, sym, ap, subst, ◌∙◌, inl, inr, append_assoc, arith, length-append, length-drop, length-take}
use Rattle.std.specs.Option.{ok_or}
use Rattle.std.proofs.lemmas.Bool.{eq-eqb, ne_eqb, cases_lt, ltb-true}
use Rattle.std.proofs.lemmas.Option.{none-some, same_Some, some_pair_parts}
use Rattle.std.proofs.lemmas.Bool.Decides.{eqb_tells}
use Rattle.std.proofs.lemmas.List.{take-append-drop, append-nil, drop_at}
use Rattle.qz_circ.specs.FaultPlaces.{Begins}
use Rattle.qz_rulefile.specs.Reading.{common, shared, first_text, one_of_at, is_apart, are_apart}
use Rattle.qz_rulefile.proofs.Exact.{Language, Faults, Exact}

-- ---- what two lists share

-- the text begins with what it shares with the bytes
common_begins : (text bytes : List ℕ) → text ≡ take (common text bytes) bytes ++ drop (common text bytes) text
unfolding common
common_begins [] bytes = refl
common_begins (c ∷ text) [] = refl
common_begins (c ∷ text) (b ∷ bytes) =
    elim (eqb_tells c b) [
      | inl s ↦ rw s.0 (ap (λ (z : ℕ). z ∷ text) s.1 ∙ ap (λ (z : List ℕ). b ∷ z) (common_begins text bytes))
      | inr s ↦ rw s.0 refl
    ]

common_within : (text bytes : List ℕ) → common text bytes ≤ length bytes
unfolding common
common_within [] bytes = omega arith
common_within (c ∷ text) [] = omega arith
common_within (c ∷ text) (b ∷ bytes) =
    elim (eqb_tells c b) [
      | inl s ↦ rw s.0 (omega (arith, common_within text bytes))
      | inr s ↦ rw s.0 (omega arith)
    ]

common_within_text : (text bytes : List ℕ) → common text bytes ≤ length text
unfolding common
common_within_text [] bytes = omega arith
common_within_text (c ∷ text) [] = omega arith
common_within_text (c ∷ text) (b ∷ bytes) =
    elim (eqb_tells c b) [
      | inl s ↦ rw s.0 (omega (arith, common_within_text text bytes))
      | inr s ↦ rw s.0 (omega arith)
    ]

-- what two lists begin with they share
common_front : (front x y : List ℕ) → length front ≤ common (front ++ x) (front ++ y)
unfolding common
common_front [] x y = omega arith
common_front (c ∷ front) x y =
    elim (eqb_tells c c) [
      | inl s ↦ rw s.0 (omega (arith, common_front front x y))
      | inr s ↦ absurd (s.1 refl)
    ]

common_whole : (text rest : List ℕ) → common text (text ++ rest) ≡ length text
common_whole text rest =
    let front : length text ≤ common (text ++ []) (text ++ rest) = common_front text [] rest in
    let here : length text ≤ common text (text ++ rest) = subst (λ (t : List ℕ). length text ≤ common t (text ++ rest)) (append-nil text) front in
    omega (arith, common_within_text text (text ++ rest))

-- ---- which text it is

pub whole_begins : (text bytes : List ℕ) → common text bytes ≡ length text → bytes ≡ text ++ drop (length text) bytes
unfolding common
whole_begins [] bytes e = refl
whole_begins (c ∷ text) [] e = absurd (omega arith)
whole_begins (c ∷ text) (b ∷ bytes) e =
    elim (eqb_tells c b) [
      | inl s ↦
          let less : common text bytes ≡ length text = omega (arith, rw s.0 at e) in
          ap (λ (z : ℕ). z ∷ bytes) (sym s.1) ∙ ap (λ (z : List ℕ). c ∷ z) (whole_begins text bytes less)
      | inr s ↦ absurd (omega (arith, rw s.0 at e))
    ]

-- more bytes behind a text that isn't shared whole change nothing
common_longer : (text other rest : List ℕ) → common text other < length other → common text (other ++ rest) ≡ common text other
unfolding common
common_longer [] other rest lt = refl
common_longer (c ∷ text) [] rest lt = absurd (omega arith)
common_longer (c ∷ text) (b ∷ other) rest lt =
    elim (eqb_tells c b) [
      | inl s ↦
          let less : common text other < length other = omega (arith, rw s.0 at lt) in
          rw s.0 (ap (λ (n : ℕ). suc n) (common_longer text other rest less))
      | inr s ↦ rw s.0 refl
    ]

both_true : (a b c : Bool) → (a && b && c) ≡ true → (a ≡ true) × (b ≡ true) × (c ≡ true)
both_true true true true e = (refl, refl, refl)
both_true true true false e = absurd cc
both_true true false c e = absurd cc
both_true false b c e = absurd cc

two_true : (a b : Bool) → (a && b) ≡ true → (a ≡ true) × (b ≡ true)
two_true true true e = (refl, refl)
two_true true false e = absurd cc
two_true false b e = absurd cc

-- a text of the others doesn't begin with this one, nor this one with it
apart_at : (text : List ℕ) (others : List (List ℕ)) (k : ℕ) (other : List ℕ) → is_apart text others ≡ true → slice_get others k ≡ Some other → (common text other < length text) × (common text other < length other)
apart_at text [] k other a e = absurd (none-some other e)
apart_at text (o ∷ others) zero other a e =
    let parts = both_true (ltb (common text o) (length text)) (ltb (common text o) (length o)) (is_apart text others) a in
    let same : o ≡ other = same_Some o other e in
    rw (← same) (ltb-true (common text o) (length text) parts.0, ltb-true (common text o) (length o) parts.1)
apart_at text (o ∷ others) (suc k) other a e =
    let parts = both_true (ltb (common text o) (length text)) (ltb (common text o) (length o)) (is_apart text others) a in
    apart_at text others k other parts.2 e

mapped_some : {A B : Type 0} (f : A → B) (o : Option A) (y : B) → option_map f o ≡ Some y → (x : A) × (o ≡ Some x) × (f x ≡ y)
mapped_some f None y e = absurd (none-some y e)
mapped_some f (Some x) y e = (x, refl, same_Some (f x) y e)

abbrev further : ℕ × List ℕ → ℕ × List ℕ
further found = (suc found.0, found.1)

-- with which text the bytes begin
first_text_takes : (texts : List (List ℕ)) (bytes : List ℕ) (k : ℕ) (rest : List ℕ) → first_text texts bytes ≡ Some (k, rest) → (text : List ℕ) × (slice_get texts k ≡ Some text) × (bytes ≡ text ++ rest)
unfolding first_text
first_text_takes [] bytes k rest e = absurd (none-some (k, rest) e)
first_text_takes (text ∷ texts) bytes k rest e =
    elim (eqb_tells (common text bytes) (length text)) [
      | inl s ↦
          let here : Some (0, drop (length text) bytes) ≡ Some (k, rest) = rw s.0 at e in
          let parts = some_pair_parts 0 k (drop (length text) bytes) rest here in
          (text, subst (λ (n : ℕ). slice_get (text ∷ texts) n ≡ Some text) parts.0 refl, whole_begins text bytes s.1 ∙ ap (λ (z : List ℕ). text ++ z) parts.1)
      | inr s ↦
          let there : option_map further (first_text texts bytes) ≡ Some (k, rest) = rw s.0 at e in
          let found = mapped_some further (first_text texts bytes) (k, rest) there in
          let more = first_text_takes texts bytes found.0.0 found.0.1 found.1 in
          let number : suc found.0.0 ≡ k = ap (λ (p : ℕ × List ℕ). p.0) found.2 in
          let behind : found.0.1 ≡ rest = ap (λ (p : ℕ × List ℕ). p.1) found.2 in
          (more.0, subst (λ (n : ℕ). slice_get (text ∷ texts) n ≡ Some more.0) number more.1, subst (λ (z : List ℕ). bytes ≡ more.0 ++ z) behind more.2)
    ]

-- a text that the bytes begin with is the one that is found
pub first_text_again : (texts : List (List ℕ)) (k : ℕ) (text rest : List ℕ) → are_apart texts ≡ true → slice_get texts k ≡ Some text → first_text texts (text ++ rest) ≡ Some (k, rest)
unfolding first_text
first_text_again [] k text rest a e = absurd (none-some text e)
first_text_again (t ∷ texts) zero text rest a e =
    let same : t ≡ text = same_Some t text e in
    let here : eqb (common t (t ++ rest)) (length t) ≡ true = rw (common_whole t rest) (eq-eqb (length t) (length t) refl) in
    rw (← same, here, drop_at t rest (length t) refl) refl
first_text_again (t ∷ texts) (suc k) text rest a e =
    let parts = two_true (is_apart t texts) (are_apart texts) a in
    let apart = apart_at t texts k text parts.0 e in
    let less : common t (text ++ rest) < length t = rw (common_longer t text rest apart.1) apart.0 in
    let other : eqb (common t (text ++ rest)) (length t) ≡ false = ne_eqb (common t (text ++ rest)) (length t) (λ same. omega (arith, less)) in
    rw (other, first_text_again texts k text rest parts.1 e) refl

-- ---- where the bytes leave all texts

abbrev pub OneOf : List (List ℕ) → Language ℕ
OneOf texts k text = slice_get texts k ≡ Some text

shared_within : (texts : List (List ℕ)) (bytes : List ℕ) → shared texts bytes ≤ length bytes
unfolding shared
shared_within [] bytes = omega arith
shared_within (text ∷ texts) bytes = omega (arith, common_within text bytes, shared_within texts bytes)

shared_most : (texts : List (List ℕ)) (bytes : List ℕ) (k : ℕ) (text : List ℕ) → slice_get texts k ≡ Some text → common text bytes ≤ shared texts bytes
unfolding shared
shared_most [] bytes k text e = absurd (none-some text e)
shared_most (t ∷ texts) bytes zero text e = let same : t ≡ text = same_Some t text e in rw (← same) (omega arith)
shared_most (t ∷ texts) bytes (suc k) text e = omega (arith, shared_most texts bytes k text e)

shared_begins : (text : List ℕ) (texts : List (List ℕ)) (bytes : List ℕ) → Begins (OneOf (text ∷ texts)) (take (shared (text ∷ texts) bytes) bytes)
unfolding shared
shared_begins text [] bytes =
    let most : max (common text bytes) 0 ≡ common text bytes = omega arith in
    (0, drop (common text bytes) text, rw most (ap Some (common_begins text bytes)))
shared_begins text (t ∷ texts) bytes =
    elim (cases_lt (common text bytes) (shared (t ∷ texts) bytes)) [
      | inl lt ↦
          let most : max (common text bytes) (shared (t ∷ texts) bytes) ≡ shared (t ∷ texts) bytes = omega arith in
          let more = shared_begins t texts bytes in
          (suc more.0, more.1, rw most more.2)
      | inr le ↦
          let most : max (common text bytes) (shared (t ∷ texts) bytes) ≡ common text bytes = omega arith in
          (0, drop (common text bytes) text, rw most (ap Some (common_begins text bytes)))
    ]

one_of_faults : (texts : List (List ℕ)) (bytes : List ℕ) → 0 < length texts → Faults (OneOf texts) bytes (length bytes - shared texts bytes)
one_of_faults [] bytes some = absurd (omega arith)
one_of_faults (t ∷ texts) bytes some =
    let n = shared (t ∷ texts) bytes in
    let fits : n ≤ length bytes = shared_within (t ∷ texts) bytes in
    record {
      seen = take n bytes;
      left = drop n bytes;
      parts = sym (take-append-drop n bytes);
      count = length-drop n bytes;
      begins = shared_begins t texts bytes;
      stops = λ b more split begun.
          let text = (take n bytes ++ b ∷ []) ++ begun.1 in
          let whole : bytes ≡ (take n bytes ++ b ∷ []) ++ more = sym (take-append-drop n bytes) ∙ ap (λ (z : List ℕ). take n bytes ++ z) split ∙ sym (append_assoc (take n bytes) (b ∷ []) more) in
          let shares : length (take n bytes ++ b ∷ []) ≤ common text ((take n bytes ++ b ∷ []) ++ more) = common_front (take n bytes ++ b ∷ []) begun.1 more in
          let here : length (take n bytes ++ b ∷ []) ≤ common text bytes = subst (λ (z : List ℕ). length (take n bytes ++ b ∷ []) ≤ common text z) (sym whole) shares in
          let most : common text bytes ≤ n = shared_most (t ∷ texts) bytes begun.0 text begun.2 in
          let long : length (take n bytes ++ b ∷ []) ≡ length (take n bytes) + 1 = length-append (take n bytes) (b ∷ []) in
          absurd (omega (arith, length-take n bytes));
    }

found_ok : {E : Type 0} (o : Option (ℕ × List ℕ)) (e : E) (x : ℕ × List ℕ) → ok_or o e ≡ Ok x → o ≡ Some x
found_ok None e x h = absurd cc
found_ok (Some y) e x h = grind arith

not_found : (o : Option (ℕ × List ℕ)) (e n : ℕ) → ok_or o e ≡ Err n → e ≡ n
not_found None e n h = grind arith
not_found (Some y) e n h = absurd cc

first_is : (texts : List (List ℕ)) → 0 < length texts → (text : List ℕ) × (slice_get texts 0 ≡ Some text)
first_is [] some = absurd (omega arith)
first_is (t ∷ texts) some = (t, refl)

-- one of some texts, of which none begins with another
pub one_of_exact : (texts : List (List ℕ)) → 0 < length texts → are_apart texts ≡ true → Exact (OneOf texts) (one_of_at texts)
unfolding one_of_at
one_of_exact texts some apart = record {
  takes = λ bytes k rest h. first_text_takes texts bytes k rest (found_ok (first_text texts bytes) (length bytes - shared texts bytes) (k, rest) h);
  again = λ k text rest e. ap (λ o. ok_or o (length (text ++ rest) - shared texts (text ++ rest))) (first_text_again texts k text rest apart e);
  faults = λ bytes n h. subst (Faults (OneOf texts) bytes) (not_found (first_text texts bytes) (length bytes - shared texts bytes) n h) (one_of_faults texts bytes some);
  some = let t = first_is texts some in (0, t.0, t.1);
}
