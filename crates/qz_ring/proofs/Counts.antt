-- Counts of lists in the one form, which determine the list.
use Rattle.std.proofs.Common.{◌≡◌, ◌≢◌, ℕ, zero, suc, ◌+◌, ◌-◌, ◌%◌, lit<, ◌<◌, ◌≤◌, false, [], ◌∷◌, get_or, ℤ, pos, ◌+ℤ◌, ◌-ℤ◌, neg_ℤ, ◌^◌, Bool, length, to_z, of_z, Some, slice_get, refl, sym, ap, subst, ◌∙◌, inl, inr, arith}
use mathlib.Core.Bool.{false≢true}
use Rattle.std.specs.Prelude.{IsTrue, ◌↔◌, ◌==◌}
use Rattle.std.specs.Int.{w128}
use Rattle.std.specs.List.{All}
use Rattle.std.proofs.lemmas.List.Elements.{All-nil, All-cons, All-head, All-tail, All-weaker}
use Rattle.std.proofs.lemmas.Bool.Decides.{nat_tests}
use Rattle.std.proofs.lemmas.Int.{ints, to_z-of_z, fits_signed_from_abs}
use Rattle.qz_ring.specs.Exponent.{Exponent, IsExponent, minus, turn_alone, with_turns, same_exponent, ExponentBefore}
use Rattle.qz_ring.specs.Terms.{Term, Terms, part_at, coefficient_at, count, weight_of, IsCanonical}
use Rattle.qz_ring.specs.Counts.{SameCounts, CountsNothing, IsLeast, IsSum, IsTimesRoot2}
use Rattle.qz_ring.proofs.Order.{same_exponent-self, before_differs, after_differs, same_from_parts, exponent_cases, ExponentBefore-trans}
use Rattle.qz_ring.proofs.Sums.{part_at-other, part_at-own, coefficient_within}
use Rattle.qz_ring.proofs.Canonical.{TermBefore, head_normal, head_before, IsCanonical-nil, IsCanonical-tail}

-- terms with other exponents add nothing
pub coefficient_at-absent : (ts : Terms) (e : Exponent) → All (λ t. same_exponent t.exponent e ≡ false) ts → coefficient_at ts e ≡ pos 0
coefficient_at-absent [] e all = refl
coefficient_at-absent (t ∷ ts) e all =
    let here = part_at-other t e (All-head (λ t. same_exponent t.exponent e ≡ false) t ts all) in
    let rest = coefficient_at-absent ts e (All-tail (λ t. same_exponent t.exponent e ≡ false) t ts all) in
    omega (arith, ints, here, rest)

-- with turns below half a circle, nothing stands at a turn past it
pub coefficient_at-past_half : (ts : Terms) (e : Exponent) → All (λ t. t.exponent.turn < 256) ts → 256 ≤ e.turn → coefficient_at ts e ≡ pos 0
coefficient_at-past_half [] e low past = refl
coefficient_at-past_half (t ∷ ts) e low past =
    let other : t.exponent.turn ≢ e.turn = let here : t.exponent.turn < 256 = All-head (λ t. t.exponent.turn < 256) t ts low in λ same. omega arith in
    let here = part_at-other t e (turns_differ t.exponent e other) in
    let rest = coefficient_at-past_half ts e (All-tail (λ t. t.exponent.turn < 256) t ts low) past in
    omega (arith, ints, here, rest)
  where
    turns_differ : (a b : Exponent) → a.turn ≢ b.turn → same_exponent a b ≡ false
    turns_differ a b differ = grind (arith, nat_tests)

-- below half a circle, the count is the coefficient
pub count-below_half : (ts : Terms) → IsCanonical ts → (e : Exponent) → e.turn < 256 → count ts e ≡ coefficient_at ts e
count-below_half ts canonical e low =
    let past : 256 ≤ (e.turn + 256) % 512 = omega arith in
    let none = coefficient_at-past_half ts (with_turns e 256) canonical.half_turns past in
    omega (arith, ints, none)

-- half a circle twice is no turn
with_turns-twice : (e : Exponent) → IsExponent e → with_turns (with_turns e 256) 256 ≡ e
with_turns-twice e in_circle = same_from_parts (with_turns (with_turns e 256) 256) e (let twice : ((e.turn + 256) % 512 + 256) % 512 ≡ e.turn = omega arith in twice) refl refl refl

-- half a circle further, the count has the other sign
pub count-half_turn : (ts : Terms) (e : Exponent) → IsExponent e → count ts (with_turns e 256) ≡ neg_ℤ (count ts e)
count-half_turn ts e in_circle = rw (with_turns-twice e in_circle) (let flips : (x y : ℤ) → x -ℤ y ≡ neg_ℤ (y -ℤ x) = λ x y. omega (arith, ints) in flips (coefficient_at ts (with_turns e 256)) (coefficient_at ts e))

-- before all terms there is nothing
coefficient_at-before : (ts : Terms) (e : Exponent) → All (λ u. ExponentBefore e u.exponent) ts → coefficient_at ts e ≡ pos 0
coefficient_at-before ts e after = coefficient_at-absent ts e (λ k d in_range. after_differs e (get_or ts k d).exponent (after k d in_range))

-- the first term is alone at its exponent
pub coefficient_at-head : (t : Term) (ts : Terms) → IsCanonical (t ∷ ts) → coefficient_at (t ∷ ts) t.exponent ≡ t.coefficient
coefficient_at-head t ts canonical =
    let own = part_at-own t t.exponent (same_exponent-self t.exponent) in
    let absent = coefficient_at-before ts t.exponent (head_before t ts canonical) in
    omega (arith, ints, own, absent)

-- terms with the same exponent and coefficient are the same
pub same_term_from_parts : (a b : Term) → a.exponent ≡ b.exponent → a.coefficient ≡ b.coefficient → a ≡ b
same_term_from_parts a b exponents coefficients = ap (λ (e : Exponent). record a { exponent = e }) exponents ∙ ap (λ (z : ℤ). record b { coefficient = z }) coefficients

-- the two lists have the same coefficients below half a circle
abbrev pub SameCoefficients : Terms → Terms → Type 0
SameCoefficients xs ys = (e : Exponent) → e.turn < 256 → coefficient_at xs e ≡ coefficient_at ys e

-- a list whose first term comes before all terms of another has other coefficients
first_is_missed : (x : Term) (xs ys : Terms) → IsCanonical (x ∷ xs) → All (TermBefore x) ys → SameCoefficients (x ∷ xs) ys → ⊥
first_is_missed x xs ys canonical after same =
    let normal = head_normal x xs canonical in
    normal.nonzero (sym (coefficient_at-head x xs canonical) ∙ same x.exponent normal.half_turn ∙ coefficient_at-before ys x.exponent after)

-- equal sums less equal parts are equal
cancelled : (a b x y : ℤ) → a +ℤ x ≡ b +ℤ y → a ≡ b → x ≡ y
cancelled a b x y sums same = omega (arith, ints)

-- what is left after a first term that both lists share
rest_is_same : (x : Term) (xs ys : Terms) → SameCoefficients (x ∷ xs) (x ∷ ys) → SameCoefficients xs ys
rest_is_same x xs ys same e low = cancelled (part_at x e) (part_at x e) _ _ (same e low) refl

-- lists in the one form with the same coefficients are the same
pub terms_from_coefficients : (xs ys : Terms) → IsCanonical xs → IsCanonical ys → SameCoefficients xs ys → xs ≡ ys
terms_from_coefficients [] [] left right same = refl
terms_from_coefficients [] (y ∷ ys) left right same = absurd (first_is_missed y ys [] right (All-nil (TermBefore y)) (λ e low. sym (same e low)))
terms_from_coefficients (x ∷ xs) [] left right same = absurd (first_is_missed x xs [] left (All-nil (TermBefore x)) same)
terms_from_coefficients (x ∷ xs) (y ∷ ys) left right same = elim (exponent_cases x.exponent y.exponent) [
  | inl before ↦ absurd (first_is_missed x xs (y ∷ ys) left (All-cons (TermBefore x) y ys before (All-weaker (TermBefore y) (TermBefore x) (λ z after. ExponentBefore-trans x.exponent y.exponent z.exponent before after) ys (head_before y ys right))) same)
  | inr (inr before) ↦ absurd (first_is_missed y ys (x ∷ xs) right (All-cons (TermBefore y) x xs before (All-weaker (TermBefore x) (TermBefore y) (λ z after. ExponentBefore-trans y.exponent x.exponent z.exponent before after) xs (head_before x xs left))) (λ e low. sym (same e low)))
  | inr (inl exponents) ↦
      let coefficients : x.coefficient ≡ y.coefficient = sym (coefficient_at-head x xs left) ∙ same x.exponent (head_normal x xs left).half_turn ∙ ap (coefficient_at (y ∷ ys)) exponents ∙ coefficient_at-head y ys right in
      let heads : x ≡ y = same_term_from_parts x y exponents coefficients in
      let rest : xs ≡ ys = terms_from_coefficients xs ys (IsCanonical-tail x xs left) (IsCanonical-tail y ys right) (rest_is_same x xs ys (subst (λ (z : Term). SameCoefficients (x ∷ xs) (z ∷ ys)) (sym heads) same)) in
      ap (λ (z : Term). z ∷ xs) heads ∙ ap (λ (zs : Terms). y ∷ zs) rest
]

-- lists in the one form with the same counts are the same
pub terms_from_counts : (xs ys : Terms) → IsCanonical xs → IsCanonical ys → SameCounts xs ys → xs ≡ ys
terms_from_counts xs ys left right same =
    terms_from_coefficients xs ys left right (λ e low. sym (count-below_half xs left e low) ∙ same e (omega arith) ∙ count-below_half ys right e low)

-- a list in the one form with no counts is empty
pub empty_from_counts : (xs : Terms) → IsCanonical xs → CountsNothing xs → xs ≡ []
empty_from_counts xs canonical none = terms_from_counts xs [] canonical IsCanonical-nil none

-- the count at the first exponent is the first coefficient
pub count-head : (t : Term) (ts : Terms) → IsCanonical (t ∷ ts) → count (t ∷ ts) t.exponent ≡ t.coefficient
count-head t ts canonical = count-below_half (t ∷ ts) canonical t.exponent (head_normal t ts canonical).half_turn ∙ coefficient_at-head t ts canonical

-- going back by one turn and then by another is going back by their sum, round the circle
minus-twice : (e : Exponent) (j k n : ℕ) → e.turn < 512 → j < 512 → k < 512 → (j + k) % 512 ≡ n → minus (minus e (turn_alone j)) (turn_alone k) ≡ minus e (turn_alone n)
minus-twice e j k n in_circle j_in k_in sum =
    same_from_parts (minus (minus e (turn_alone j)) (turn_alone k)) (minus e (turn_alone n))
    (let turns : ((e.turn + (512 - j)) % 512 + (512 - k)) % 512 ≡ (e.turn + (512 - n)) % 512 = omega arith in turns)
    (minus_none e.x0) (minus_none e.x1) (minus_none e.x2)
  where
    minus_none : (x : ℤ) → (x -ℤ pos 0) -ℤ pos 0 ≡ x -ℤ pos 0
    minus_none x = omega (arith, ints)

-- going back by half a circle and more is going on by half a turn from there
minus-past_half : (e : Exponent) (k n : ℕ) → e.turn < 512 → k < 512 → (k + 256) % 512 ≡ n → minus e (turn_alone n) ≡ with_turns (minus e (turn_alone k)) 256
minus-past_half e k n in_circle k_in sum =
    same_from_parts (minus e (turn_alone n)) (with_turns (minus e (turn_alone k)) 256)
    (let turns : (e.turn + (512 - n)) % 512 ≡ ((e.turn + (512 - k)) % 512 + 256) % 512 = omega arith in turns)
    refl refl refl

-- going back by no turn stays
minus-none : (e : Exponent) → IsExponent e → minus e (turn_alone 0) ≡ e
minus-none e in_circle =
    same_from_parts (minus e (turn_alone 0)) e
    (let turns : (e.turn + (512 - 0)) % 512 ≡ e.turn = omega arith in turns)
    (minus_nothing e.x0) (minus_nothing e.x1) (minus_nothing e.x2)
  where
    minus_nothing : (x : ℤ) → x -ℤ pos 0 ≡ x
    minus_nothing x = omega (arith, ints)

-- a count half a circle back has the other sign
count-back_half : (ts : Terms) (e : Exponent) (k n : ℕ) → IsExponent e → k < 512 → (k + 256) % 512 ≡ n → count ts (minus e (turn_alone n)) ≡ neg_ℤ (count ts (minus e (turn_alone k)))
count-back_half ts e k n in_circle k_in sum =
    ap (count ts) (minus-past_half e k n in_circle k_in sum) ∙ count-half_turn ts (minus e (turn_alone k)) (let low : (e.turn + (512 - k)) % 512 < 512 = omega arith in low)

-- the square root of 2 twice doubles each count
pub root2-twice : (a b c : Terms) → IsTimesRoot2 a b → IsTimesRoot2 b c → IsSum a a c
root2-twice a b c first second e in_circle =
    let low : (k : ℕ) → IsExponent (minus e (turn_alone k)) = λ k. omega arith in
    let back = λ (j k n : ℕ) (p : j < 512) (q : k < 512) (s : (j + k) % 512 ≡ n). ap (count a) (minus-twice e j k n in_circle p q s) in
    let near = first (minus e (turn_alone 64)) (low 64) in
    let far = first (minus e (turn_alone 192)) (low 192) in
    let b128 = back 64 64 128 (lit< tt) (lit< tt) refl in
    let b256 = back 64 192 256 (lit< tt) (lit< tt) refl in
    let b256' = back 192 64 256 (lit< tt) (lit< tt) refl in
    let b384 = back 192 192 384 (lit< tt) (lit< tt) refl in
    let half = count-back_half a e 0 256 in_circle (lit< tt) refl in
    let none = ap (count a) (minus-none e in_circle) in
    let past = count-back_half a e 128 384 in_circle (lit< tt) refl in
    combined _ _ _ _ _ _ _ _ _ _ _ _ (second e in_circle) near far b128 b256 b256' b384 half none past
  where
    combined : (ce b1 b2 a1 a2 a3 a4 a128 a256 a384 a0 ae : ℤ) → ce ≡ b1 -ℤ b2 → b1 ≡ a1 -ℤ a2 → b2 ≡ a3 -ℤ a4 → a1 ≡ a128 → a2 ≡ a256 → a3 ≡ a256 → a4 ≡ a384 → a256 ≡ neg_ℤ a0 → a0 ≡ ae → a384 ≡ neg_ℤ a128 → ce ≡ ae +ℤ ae
    combined ce b1 b2 a1 a2 a3 a4 a128 a256 a384 a0 ae p1 p2 p3 p4 p5 p6 p7 p8 p9 p10 = omega (arith, ints)

-- each term is alone at its exponent
coefficient_at-place : (ts : Terms) (k : ℕ) (t : Term) → k < length ts → t ≡ get_or ts k t → IsCanonical ts → coefficient_at ts t.exponent ≡ t.coefficient
coefficient_at-place [] k t in_range read canonical = absurd (omega arith)
coefficient_at-place (x ∷ xs) zero t in_range read canonical = subst (λ (u : Term). coefficient_at (x ∷ xs) u.exponent ≡ u.coefficient) (sym read) (coefficient_at-head x xs canonical)
coefficient_at-place (x ∷ xs) (suc k) t in_range read canonical =
    let before : TermBefore x t = subst (TermBefore x) (sym read) (head_before x xs canonical k t (omega arith)) in
    let other = part_at-other x t.exponent (before_differs x.exponent t.exponent before) in
    let rest = coefficient_at-place xs k t (omega arith) read (IsCanonical-tail x xs canonical) in
    omega (arith, ints, other, rest)

-- each term counts its coefficient at its exponent
pub count-place : (ts : Terms) (k : ℕ) (t : Term) → k < length ts → t ≡ get_or ts k t → IsCanonical ts → count ts t.exponent ≡ t.coefficient
count-place ts k t in_range read canonical =
    let low : t.exponent.turn < 256 = subst (λ (u : Term). u.exponent.turn < 256) (sym read) (canonical.half_turns k t in_range) in
    count-below_half ts canonical t.exponent low ∙ coefficient_at-place ts k t in_range read canonical

-- the exponent of the first term is the least
pub least-head : (t : Term) (ts : Terms) → IsCanonical (t ∷ ts) → IsLeast (t ∷ ts) t.exponent
least-head t ts canonical =
    let normal = head_normal t ts canonical in
    record {
      half_turn = normal.half_turn;
      counted = λ none. normal.nonzero (sym (count-head t ts canonical) ∙ none);
      least = λ e low counts. elim (exponent_cases t.exponent e) [
        | inl before ↦ inr before
        | inr (inl same) ↦ inl (sym same)
        | inr (inr before) ↦ absurd (counts (count-below_half (t ∷ ts) canonical e low ∙ coefficient_at-before (t ∷ ts) e (All-cons (λ u. ExponentBefore e u.exponent) t ts before (All-weaker (TermBefore t) (λ u. ExponentBefore e u.exponent) (λ u after. ExponentBefore-trans e t.exponent u.exponent before after) ts (head_before t ts canonical)))))
      ];
    }

-- an empty list has no counts
pub count-empty : (ts : Terms) (e : Exponent) → ts ≡ [] → count ts e ≡ pos 0
count-empty ts e none = rw none refl

-- a length past 0 is not 0
past_zero : (n : ℕ) → ((n + 1) == 0) ≡ false
past_zero n = grind (arith, nat_tests)

-- a list of no length is empty
pub empty_tells : (ts : Terms) (n : ℕ) (r : Bool) → r ≡ (n == 0) → n ≡ length ts → IsTrue r ↔ (ts ≡ [])
empty_tells [] n r test same = (λ yes. refl, λ none. rw (test, same) refl)
empty_tells (t ∷ ts) n r test same =
    let longer : n ≡ length ts + 1 = omega arith in
    let no : r ≡ false = rw longer at test ∙ past_zero (length ts) in
    (λ yes. absurd (false≢true (sym no ∙ yes)), λ none. cc)

-- the first exponent that is read is the least
pub least-first : (ts : Terms) (lead : Exponent) (z : ℤ) → slice_get ts 0 ≡ Some (record { exponent = lead; coefficient = z }) → IsCanonical ts → IsLeast ts lead
least-first [] lead z first canonical = cc
least-first (t ∷ ts) lead z first canonical =
    let same : t ≡ record { exponent = lead; coefficient = z } = cc in
    subst (λ (u : Term). IsLeast (t ∷ ts) u.exponent) same (least-head t ts canonical)

-- a term, as it is read at a place, counts its coefficient
pub count-read : (ts us : Terms) (k : ℕ) (t u : Term) → u ≡ t → us ≡ ts → k < length us → t ≡ get_or us k t → IsCanonical us → weight_of us ≤ 2 ^ 120 → count ts u.exponent ≡ to_z w128 (of_z w128 u.coefficient)
count-read ts us k t u read view in_range at canonical small =
    let within = coefficient_within us k t in_range at in
    rw (← view, read, to_z-of_z w128 t.coefficient (fits_signed_from_abs w128 t.coefficient (omega arith))) (count-place us k t in_range at canonical)
