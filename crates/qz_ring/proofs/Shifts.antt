-- What multiplying each term by a monomial does to a list.
use Rattle.std.proofs.Common.{◌≡◌, ℕ, zero, suc, ◌+◌, ◌-◌, ◌%◌, ◌<◌, ◌≤◌, max, Bool, true, false, cond, ◌&&◌, ◌++◌, [], ◌∷◌, map, take, drop, length, length-drop, length-append, get_or, ℤ, pos, ◌+ℤ◌, ◌-ℤ◌, neg_ℤ, refl, sym, ap, ◌∙◌, inl, inr, arith}
use Rattle.std.specs.Prelude.{nat_le, ◌==◌}
use Rattle.std.specs.Ordering.{int_eq}
use Rattle.std.specs.List.{All}
use Rattle.std.proofs.lemmas.List.{get_or-drop, get_or_default, length-map, map-append, take-append-drop}
use Rattle.std.proofs.lemmas.List.Elements.{All-head, All-tail, All-append, All-take, All-drop, All-map}
use Rattle.std.proofs.lemmas.Bool.{cases_lt}
use Rattle.std.proofs.lemmas.Bool.Decides.{nat_tests, same_from_decides, Decides-like, Decides-eqb, Decides-int_eq}
use Rattle.std.proofs.lemmas.Int.{ints}
use Rattle.qz_ring.specs.Exponent.{Exponent, IsExponent, plus, minus, with_turns, same_powers, PowersBefore, ExponentBefore, reach_of}
use Rattle.qz_ring.specs.Terms.{Term, Terms, signed, part_at, coefficient_at, count, weight_of, largest_reach, reach_times, IsCanonical}
use Rattle.qz_ring.specs.Shifting.{below_half_turn, shifted_term, IsShifted}
use Rattle.qz_ring.proofs.Numbers.{unsigned_abs-signed}
use Rattle.qz_ring.proofs.Sums.{coefficient_at-append, weight_of-append, largest_reach-append, reach_times-append}
use Rattle.qz_ring.proofs.MergeSteps.{signed_nonzero}
use Rattle.qz_ring.proofs.Canonical.{TermBefore, IsNormal, Keeps, IsCanonical-split, IsCanonical-join, IsCanonical-map}

-- an exponent that comes before another turns no further
turn_before : (a b : Exponent) → ExponentBefore a b → a.turn ≤ b.turn
turn_before a b (inl less) = omega arith
turn_before a b (inr same) = omega (arith, same.0)

-- from a term that reaches the limit on, every term does
pub rest_passes : (ts : Terms) (i limit : ℕ) (t : Term) → IsCanonical ts → i < length ts → t ≡ get_or ts i t → limit ≤ t.exponent.turn → All (λ u. limit ≤ u.exponent.turn) (drop i ts)
rest_passes ts i limit t canonical in_range read passes k d lt =
    let inside : i + k < length ts = omega (arith, length-drop i ts) in
    let later : (get_or ts i t).exponent.turn ≤ (get_or ts (i + k) t).exponent.turn = elim (cases_lt i (i + k)) [
      | inl below ↦ turn_before (get_or ts i t).exponent (get_or ts (i + k) t).exponent (canonical.rising i (i + k) t below inside)
      | inr here ↦ let same : i + k ≡ i = omega arith in rw same (omega arith)
    ] in
    let turn = ap (λ (u : Term). u.exponent.turn) read in
    let default = ap (λ (u : Term). u.exponent.turn) (get_or_default ts (i + k) t d inside) in
    rw get_or-drop (omega (arith, later, turn, default))

-- the place after the front that is already mapped
mapped_at : (f : Term → Term) (ts : Terms) (i : ℕ) (t : Term) → get_or (map f (take i ts) ++ drop i ts) i t ≡ get_or ts i t
mapped_at f [] zero t = refl
mapped_at f [] (suc i) t = refl
mapped_at f (x ∷ xs) zero t = refl
mapped_at f (x ∷ xs) (suc i) t = mapped_at f xs i t

-- past the front that is already mapped, the list is as it was
pub unmapped : (f : Term → Term) (ts us : Terms) (i : ℕ) (t : Term) → us ≡ map f (take i ts) ++ drop i ts → t ≡ get_or us i t → t ≡ get_or ts i t
unmapped f ts us i t so_far read = read ∙ ap (λ (vs : Terms). get_or vs i t) so_far ∙ mapped_at f ts i t

-- a turned list weighs the same
pub weight_of-rotated : (ts : Terms) (k : ℕ) → weight_of (drop k ts ++ take k ts) ≡ weight_of ts
weight_of-rotated ts k = omega (arith, weight_of-append (drop k ts) (take k ts), sym (weight_of-append (take k ts) (drop k ts)) ∙ ap weight_of (take-append-drop k ts))

-- and reaches as far
pub largest_reach-rotated : (ts : Terms) (k : ℕ) → largest_reach (drop k ts ++ take k ts) ≡ largest_reach ts
largest_reach-rotated ts k = omega (arith, largest_reach-append (drop k ts) (take k ts), sym (largest_reach-append (take k ts) (drop k ts)) ∙ ap largest_reach (take-append-drop k ts))

-- and so do its products
pub reach_times-rotated : (by : Exponent) (ts : Terms) (k : ℕ) → reach_times (drop k ts ++ take k ts) by ≡ reach_times ts by
reach_times-rotated by ts k =
    omega (arith, reach_times-append by (drop k ts) (take k ts), sym (reach_times-append by (take k ts) (drop k ts)) ∙ ap (λ (us : Terms). reach_times us by) (take-append-drop k ts))

-- neither part of a list weighs more than the whole
pub parts_weigh : (ts : Terms) (k : ℕ) → (weight_of (take k ts) ≤ weight_of ts) × (weight_of (drop k ts) ≤ weight_of ts)
parts_weigh ts k =
    let whole = sym (weight_of-append (take k ts) (drop k ts)) ∙ ap weight_of (take-append-drop k ts) in
    (omega (arith, whole), omega (arith, whole))

-- nor reaches further
pub parts_reach : (ts : Terms) (k : ℕ) → (largest_reach (take k ts) ≤ largest_reach ts) × (largest_reach (drop k ts) ≤ largest_reach ts)
parts_reach ts k =
    let whole = sym (largest_reach-append (take k ts) (drop k ts)) ∙ ap largest_reach (take-append-drop k ts) in
    (omega (arith, whole), omega (arith, whole))

-- nor do its products
pub part_products : (by : Exponent) (ts : Terms) (k : ℕ) → (reach_times (take k ts) by ≤ reach_times ts by) × (reach_times (drop k ts) by ≤ reach_times ts by)
part_products by ts k =
    let whole = sym (reach_times-append by (take k ts) (drop k ts)) ∙ ap (λ (us : Terms). reach_times us by) (take-append-drop k ts) in
    (omega (arith, whole), omega (arith, whole))

-- and has the same coefficients
coefficient_at-rotated : (ts : Terms) (k : ℕ) (e : Exponent) → coefficient_at (drop k ts ++ take k ts) e ≡ coefficient_at ts e
coefficient_at-rotated ts k e =
    let turned = coefficient_at-append (drop k ts) (take k ts) e in
    let whole = sym (coefficient_at-append (take k ts) (drop k ts) e) ∙ ap (λ (us : Terms). coefficient_at us e) (take-append-drop k ts) in
    omega (arith, ints, turned, whole)

-- shifted terms weigh the same
weight_of-shifted : (by : Exponent) (ts : Terms) → weight_of (map (shifted_term by) ts) ≡ weight_of ts
weight_of-shifted by [] = refl
weight_of-shifted by (t ∷ ts) = omega (arith, unsigned_abs-signed (nat_le 256 (plus t.exponent by).turn) t.coefficient, weight_of-shifted by ts)

-- shifted terms reach as far as the products
largest_reach-shifted : (by : Exponent) (ts : Terms) → largest_reach (map (shifted_term by) ts) ≡ reach_times ts by
largest_reach-shifted by [] = refl
largest_reach-shifted by (t ∷ ts) = ap (max (reach_of (plus t.exponent by))) (largest_reach-shifted by ts)

-- a power is the sum exactly where the other is the difference
int_eq-moved : (x b e : ℤ) → int_eq (x +ℤ b) e ≡ int_eq x (e -ℤ b)
int_eq-moved x b e = same_from_decides _ _ (Decides-like _ (λ (same : x +ℤ b ≡ e). let moved : x ≡ e -ℤ b = omega (arith, ints) in moved) (λ (same : x ≡ e -ℤ b). let moved : x +ℤ b ≡ e = omega (arith, ints) in moved) (Decides-int_eq (x +ℤ b) e)) (Decides-int_eq x (e -ℤ b))

-- so it is for all three powers
same_powers-moved : (t by e : Exponent) → same_powers (plus t by) e ≡ same_powers t (minus e by)
same_powers-moved t by e = rw (int_eq-moved t.x0 by.x0 e.x0, int_eq-moved t.x1 by.x1 e.x1, int_eq-moved t.x2 by.x2 e.x2) refl

-- two tests of numbers that hold together answer the same
eqb-like : (a b c d : ℕ) → (a ≡ b → c ≡ d) → (c ≡ d → a ≡ b) → (a == b) ≡ (c == d)
eqb-like a b c d there back = same_from_decides _ _ (Decides-like _ there back (Decides-eqb a b)) (Decides-eqb c d)

-- a choice of a negated number
choice_negated : (v : Bool) (z : ℤ) → cond v (neg_ℤ z) (pos 0) ≡ neg_ℤ (cond v z (pos 0))
choice_negated true z = refl
choice_negated false z = refl

-- the difference of two choices of a negated number
choices_swapped : (v w : Bool) (z : ℤ) → cond w (neg_ℤ z) (pos 0) -ℤ cond v (neg_ℤ z) (pos 0) ≡ cond v z (pos 0) -ℤ cond w z (pos 0)
choices_swapped v w z = rw (choice_negated v z, choice_negated w z) (let flips : (x y : ℤ) → neg_ℤ y -ℤ neg_ℤ x ≡ x -ℤ y = λ x y. omega (arith, ints) in flips (cond v z (pos 0)) (cond w z (pos 0)))

-- what a term at turn t adds at e, once it is turned by b: `p` tells whether its powers are those of e
turned_part : (p : Bool) (z : ℤ) (t b e : ℕ) → t < 256 → b < 512 → e < 512 → cond ((((t + b) % 512) % 256 == e) && p) (signed (nat_le 256 ((t + b) % 512)) z) (pos 0) -ℤ cond ((((t + b) % 512) % 256 == ((e + 256) % 512)) && p) (signed (nat_le 256 ((t + b) % 512)) z) (pos 0) ≡ cond ((t == ((e + (512 - b)) % 512)) && p) z (pos 0) -ℤ cond ((t == (((e + (512 - b)) % 512 + 256) % 512)) && p) z (pos 0)
turned_part p z t b e t_in b_in e_in = elim (cases_lt ((t + b) % 512) 256) [
  | inl low ↦
      let sign : nat_le 256 ((t + b) % 512) ≡ false = grind (arith, nat_tests) in
      let here = eqb-like (((t + b) % 512) % 256) e t ((e + (512 - b)) % 512) (λ same. omega arith) (λ same. omega arith) in
      let there = eqb-like (((t + b) % 512) % 256) ((e + 256) % 512) t (((e + (512 - b)) % 512 + 256) % 512) (λ same. omega arith) (λ same. omega arith) in
      rw (sign, here, there) refl
  | inr high ↦
      let sign : nat_le 256 ((t + b) % 512) ≡ true = grind (arith, nat_tests) in
      let here = eqb-like (((t + b) % 512) % 256) e t (((e + (512 - b)) % 512 + 256) % 512) (λ same. omega arith) (λ same. omega arith) in
      let there = eqb-like (((t + b) % 512) % 256) ((e + 256) % 512) t ((e + (512 - b)) % 512) (λ same. omega arith) (λ same. omega arith) in
      rw (sign, here, there) (choices_swapped ((t == ((e + (512 - b)) % 512)) && p) ((t == (((e + (512 - b)) % 512 + 256) % 512)) && p) z)
]

-- a shifted term counts where the term counted before
part-shifted : (t : Term) (by e : Exponent) → t.exponent.turn < 256 → by.turn < 512 → IsExponent e → part_at (shifted_term by t) e -ℤ part_at (shifted_term by t) (with_turns e 256) ≡ part_at t (minus e by) -ℤ part_at t (with_turns (minus e by) 256)
part-shifted t by e t_in by_in e_in = rw (same_powers-moved t.exponent by e) (turned_part (same_powers t.exponent (minus e by)) t.coefficient t.exponent.turn by.turn e.turn t_in by_in e_in)

-- shifted terms count where the terms counted before
count-shifted : (by : Exponent) (ts : Terms) (e : Exponent) → All (λ t. t.exponent.turn < 256) ts → by.turn < 512 → IsExponent e → count (map (shifted_term by) ts) e ≡ count ts (minus e by)
count-shifted by [] e low by_in e_in = refl
count-shifted by (t ∷ ts) e low by_in e_in =
    joined_counts (part_at (shifted_term by t) e) (part_at (shifted_term by t) (with_turns e 256)) (part_at t (minus e by)) (part_at t (with_turns (minus e by) 256)) _ _ _ _
    (part-shifted t by e (All-head (λ t. t.exponent.turn < 256) t ts low) by_in e_in)
    (count-shifted by ts e (All-tail (λ t. t.exponent.turn < 256) t ts low) by_in e_in)
  where
    joined_counts : (a b c d x y z w : ℤ) → a -ℤ b ≡ c -ℤ d → x -ℤ y ≡ z -ℤ w → (a +ℤ x) -ℤ (b +ℤ y) ≡ (c +ℤ z) -ℤ (d +ℤ w)
    joined_counts a b c d x y z w first rest = omega (arith, ints)

-- below the limit the turn goes up
turn_below : (t b : ℕ) → t < 256 - b % 256 → ((t + b) % 512) % 256 ≡ t + b % 256
turn_below t b low = omega arith

-- from the limit on it passes half a circle
turn_passing : (t b : ℕ) → t < 256 → 256 - b % 256 ≤ t → ((t + b) % 512) % 256 + 256 ≡ t + b % 256
turn_passing t b t_in high = omega arith

-- the order of the powers stays
PowersBefore-plus : (a b by : Exponent) → PowersBefore a b → PowersBefore (plus a by) (plus b by)
PowersBefore-plus a b by (inl less) = inl (omega (arith, ints))
PowersBefore-plus a b by (inr (x0, inl less)) = inr (ap (λ (z : ℤ). z +ℤ by.x0) x0, inl (omega (arith, ints)))
PowersBefore-plus a b by (inr (x0, inr (x1, less))) = inr (ap (λ (z : ℤ). z +ℤ by.x0) x0, inr (ap (λ (z : ℤ). z +ℤ by.x1) x1, omega (arith, ints)))

-- where the turns go up alike, so does the order of the shifted exponents
ExponentBefore-plus : (a b by : Exponent) (m n : ℕ) → ((a.turn + by.turn) % 512) % 256 + m ≡ a.turn + n → ((b.turn + by.turn) % 512) % 256 + m ≡ b.turn + n → ExponentBefore a b → ExponentBefore (below_half_turn (plus a by)) (below_half_turn (plus b by))
ExponentBefore-plus a b by m n first second (inl less) = inl (omega arith)
ExponentBefore-plus a b by m n first second (inr (same, powers)) = inr (omega arith, PowersBefore-plus a b by powers)

-- a shifted term is normal
IsNormal-shifted : (by : Exponent) (t : Term) → IsNormal t → IsNormal (shifted_term by t)
IsNormal-shifted by t normal = record {
  half_turn = let low : ((t.exponent.turn + by.turn) % 512) % 256 < 256 = omega arith in low;
  nonzero = signed_nonzero (nat_le 256 (plus t.exponent by).turn) t.coefficient normal.nonzero;
}

module _ (by : Exponent) where
  -- the terms that stay below half a circle keep their order
  keeps_below : Keeps (λ t. t.exponent.turn < 256 - by.turn % 256) (shifted_term by)
  keeps_below = record {
    normal = λ t p normal. IsNormal-shifted by t normal;
    order = λ t u p q first second before.
        ExponentBefore-plus t.exponent u.exponent by 0 (by.turn % 256)
        (let sum = turn_below t.exponent.turn by.turn p in let turns : ((t.exponent.turn + by.turn) % 512) % 256 + 0 ≡ t.exponent.turn + by.turn % 256 = omega (arith, sum) in turns)
        (let sum = turn_below u.exponent.turn by.turn q in let turns : ((u.exponent.turn + by.turn) % 512) % 256 + 0 ≡ u.exponent.turn + by.turn % 256 = omega (arith, sum) in turns)
        before;
  }

  -- and so do those that pass it
  keeps_passing : Keeps (λ t. 256 - by.turn % 256 ≤ t.exponent.turn) (shifted_term by)
  keeps_passing = record {
    normal = λ t p normal. IsNormal-shifted by t normal;
    order = λ t u p q first second before.
        ExponentBefore-plus t.exponent u.exponent by 256 (by.turn % 256)
        (turn_passing t.exponent.turn by.turn first.half_turn p)
        (turn_passing u.exponent.turn by.turn second.half_turn q)
        before;
  }

  -- a term that passes half a circle comes before one that does not
  passing_before_below : (t u : Term) → t.exponent.turn < 256 → 256 - by.turn % 256 ≤ t.exponent.turn → u.exponent.turn < 256 - by.turn % 256 → TermBefore (shifted_term by t) (shifted_term by u)
  passing_before_below t u t_in passes low =
      let first = turn_passing t.exponent.turn by.turn t_in passes in
      let second = turn_below u.exponent.turn by.turn low in
      inl (let less : ((t.exponent.turn + by.turn) % 512) % 256 < ((u.exponent.turn + by.turn) % 512) % 256 = omega (arith, first, second) in less)

  -- the terms that pass come to the front, and the list stays in the one form
  canonical_shifted : (ts : Terms) (k : ℕ) → IsCanonical ts → All (λ t. t.exponent.turn < 256 - by.turn % 256) (take k ts) → All (λ t. 256 - by.turn % 256 ≤ t.exponent.turn) (drop k ts) → IsCanonical (map (shifted_term by) (drop k ts) ++ map (shifted_term by) (take k ts))
  canonical_shifted ts k canonical low passes =
      let f = shifted_term by in
      let parts = IsCanonical-split (take k ts) (drop k ts) (rw take-append-drop canonical) in
      IsCanonical-join (map f (drop k ts)) (map f (take k ts)) (record {
        front = IsCanonical-map (λ t. 256 - by.turn % 256 ≤ t.exponent.turn) f keeps_passing (drop k ts) passes parts.back;
        back = IsCanonical-map (λ t. t.exponent.turn < 256 - by.turn % 256) f keeps_below (take k ts) low parts.front;
        between = All-map (λ x. All (TermBefore x) (map f (take k ts))) f (drop k ts) (λ i d i_in.
            All-map (TermBefore (f (get_or (drop k ts) i d))) f (take k ts) (λ j g j_in.
            passing_before_below (get_or (drop k ts) i d) (get_or (take k ts) j g) (parts.back.half_turns i d i_in) (passes i d i_in) (low j g j_in)));
      })

  -- the shifted list is the old one times the monomial
  pub is_shifted : by.turn < 512 → (ts : Terms) (k : ℕ) → IsCanonical ts → All (λ t. t.exponent.turn < 256 - by.turn % 256) (take k ts) → All (λ t. 256 - by.turn % 256 ≤ t.exponent.turn) (drop k ts) → IsShifted by ts (map (shifted_term by) (drop k ts ++ take k ts))
  is_shifted by_in ts k canonical low passes =
      let us = drop k ts ++ take k ts in
      let low_turns = All-append (λ t. t.exponent.turn < 256) (drop k ts) (take k ts) (All-drop (λ t. t.exponent.turn < 256) k ts canonical.half_turns) (All-take (λ t. t.exponent.turn < 256) k ts canonical.half_turns) in
      record {
        canonical = rw map-append (canonical_shifted ts k canonical low passes);
        counts = λ e e_in. count-shifted by us e low_turns by_in e_in ∙ rotated_count (minus e by);
        weight = weight_of-shifted by us ∙ weight_of-rotated ts k;
        length = length-map us (shifted_term by) ∙ rotated_length;
        reach = largest_reach-shifted by us ∙ reach_times-rotated by ts k;
      }
    where
      rotated_count : (e : Exponent) → count (drop k ts ++ take k ts) e ≡ count ts e
      rotated_count e = ap (λ (z : ℤ). z -ℤ coefficient_at (drop k ts ++ take k ts) (with_turns e 256)) (coefficient_at-rotated ts k e) ∙ ap (λ (z : ℤ). coefficient_at ts e -ℤ z) (coefficient_at-rotated ts k (with_turns e 256))

      rotated_length : length (drop k ts ++ take k ts) ≡ length ts
      rotated_length = omega (arith, length-append (drop k ts) (take k ts), sym (length-append (take k ts) (drop k ts)) ∙ ap length (take-append-drop k ts))
