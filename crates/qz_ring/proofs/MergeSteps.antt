-- The steps of a merge, each of which keeps `IsMerging`, and its end.
use Rattle.std.proofs.Common.{◌≡◌, ◌≢◌, ℕ, ◌+◌, ◌≤◌, max, Bool, true, false, cond, ◌⊎◌, [], ◌∷◌, ◌++◌, map, length, ℤ, pos, ◌+ℤ◌, ◌^◌, to_z, of_z, refl, sym, ap, subst, ◌∙◌, suc, ◌<◌, ◌-◌, ◌-ℤ◌, take, drop, length-drop, add-one, append_assoc, length-append, get_or, inl, inr, arith}
use mathlib.Core.Bool.{false≢true}
use Rattle.std.specs.Prelude.{unsigned_abs}
use Rattle.std.specs.Bool.{Decides}
use Rattle.std.specs.Ordering.{int_eq}
use Rattle.std.proofs.lemmas.Bool.Decides.{Decides-int_eq}
use Rattle.std.proofs.lemmas.List.Elements.{All-map}
use Rattle.std.proofs.lemmas.List.{append-nil, take_all, drop_all}
use Rattle.std.proofs.Math.Seq.{drop-cons}
use Rattle.std.proofs.lemmas.Int.{ints, to_z-of_z, fits_signed_from_abs}
use Rattle.std.specs.Int.{w128}
use Rattle.qz_ring.specs.Exponent.{Exponent, with_turns, same_exponent, ExponentBefore, reach_of}
use Rattle.qz_ring.specs.Terms.{Term, Terms, signed, signed_term, part_at, coefficient_at, count, weight_of, largest_reach, IsCanonical}
use Rattle.qz_ring.specs.Merging.{sum_of_two, IsMerging, IsMerged}
use Rattle.qz_ring.proofs.Numbers.{unsigned_abs-add, unsigned_abs-signed, signed-add}
use Rattle.qz_ring.proofs.Sums.{coefficient_at-append, weight_of-append, largest_reach-append}
use Rattle.qz_ring.proofs.Canonical.{TermBefore, head_normal, canonical_before, canonical_replaced, canonical_without, IsCanonical-nil, IsCanonical-split, IsCanonical-join, IsJoin, Keeps, IsCanonical-map}

-- a sign of 0 is 0
signed-zero : (n : Bool) → signed n (pos 0) ≡ pos 0
signed-zero true = refl
signed-zero false = refl

-- a number with a sign is not 0 where the number is not
pub signed_nonzero : (n : Bool) (z : ℤ) → z ≢ pos 0 → signed n z ≢ pos 0
signed_nonzero true z nonzero zero = nonzero (omega (arith, ints))
signed_nonzero false z nonzero zero = nonzero zero

-- the sign of a choice
signed_choice : (n v : Bool) (z : ℤ) → signed n (cond v z (pos 0)) ≡ cond v (signed n z) (pos 0)
signed_choice n true z = refl
signed_choice n false z = signed-zero n

-- the sum of two like choices
choices_add : (v : Bool) (a b : ℤ) → cond v a (pos 0) +ℤ cond v b (pos 0) ≡ cond v (a +ℤ b) (pos 0)
choices_add true a b = refl
choices_add false a b = refl

-- what a term with a sign adds
part_at-signed : (n : Bool) (t : Term) (e : Exponent) → signed n (part_at t e) ≡ part_at (signed_term n t) e
part_at-signed n t e = signed_choice n (same_exponent t.exponent e) t.coefficient

-- a sign goes over the first term of a list
signed_first : (n : Bool) (t : Term) (ts : Terms) (e : Exponent) → signed n (coefficient_at (t ∷ ts) e) ≡ part_at (signed_term n t) e +ℤ signed n (coefficient_at ts e)
signed_first n t ts e = signed-add n (part_at t e) (coefficient_at ts e) ∙ ap (λ (z : ℤ). z +ℤ signed n (coefficient_at ts e)) (part_at-signed n t e)

-- a list of terms with signs
pub coefficient_at-signed : (n : Bool) (ts : Terms) (e : Exponent) → coefficient_at (map (signed_term n) ts) e ≡ signed n (coefficient_at ts e)
coefficient_at-signed n [] e = sym (signed-zero n)
coefficient_at-signed n (t ∷ ts) e = ap (λ (z : ℤ). part_at (signed_term n t) e +ℤ z) (coefficient_at-signed n ts e) ∙ sym (signed_first n t ts e)

-- signs keep the weight
pub weight_of-signed : (n : Bool) (ts : Terms) → weight_of (map (signed_term n) ts) ≡ weight_of ts
weight_of-signed n [] = refl
weight_of-signed n (t ∷ ts) = omega (arith, unsigned_abs-signed n t.coefficient, weight_of-signed n ts)

-- signs keep the powers
pub largest_reach-signed : (n : Bool) (ts : Terms) → largest_reach (map (signed_term n) ts) ≡ largest_reach ts
largest_reach-signed n [] = refl
largest_reach-signed n (t ∷ ts) = ap (max (reach_of t.exponent)) (largest_reach-signed n ts)

-- the number moves from the rest to what is out
moved_left : (o x a b t os : ℤ) → os ≡ o +ℤ (x +ℤ pos 0) → (o +ℤ (x +ℤ a)) +ℤ b ≡ t → (os +ℤ a) +ℤ b ≡ t
moved_left o x a b t os p q = omega (arith, ints)

-- so it does on the right
moved_right : (o a s c sum t os : ℤ) → os ≡ o +ℤ (s +ℤ pos 0) → sum ≡ s +ℤ c → (o +ℤ a) +ℤ sum ≡ t → (os +ℤ a) +ℤ c ≡ t
moved_right o a s c sum t os p q r = omega (arith, ints)

-- so do two numbers at once
moved_both : (o x a s c sum t j os : ℤ) → os ≡ o +ℤ j → j ≡ x +ℤ s → sum ≡ s +ℤ c → (o +ℤ (x +ℤ a)) +ℤ sum ≡ t → (os +ℤ a) +ℤ c ≡ t
moved_both o x a s c sum t j os p q r u = omega (arith, ints)

-- the first term on the left is moved
pub merge_left : (n : Bool) (left right out xs ys : Terms) (x y : Term) → IsMerging n left right out (x ∷ xs) (y ∷ ys) → TermBefore x y → IsMerging n left right (out ++ x ∷ []) xs (y ∷ ys)
merge_left n left right out xs ys x y m before = record {
  canonical_left = rw append_assoc m.canonical_left;
  canonical_right = rw append_assoc (canonical_before out xs ys x y m.canonical_left m.canonical_right before);
  coefficients = λ e. moved_left (coefficient_at out e) (part_at x e) (coefficient_at xs e) (signed n (coefficient_at (y ∷ ys) e)) (coefficient_at left e +ℤ signed n (coefficient_at right e)) (coefficient_at (out ++ x ∷ []) e) (coefficient_at-append out (x ∷ []) e) (m.coefficients e);
  weight = omega (arith, m.weight, weight_of-append out (x ∷ []));
  reach = omega (arith, m.reach, largest_reach-append out (x ∷ []));
  length = omega (arith, m.length, length-append out (x ∷ []));
}

-- the first term on the right is moved, with its sign
pub merge_right : (n : Bool) (left right out xs ys : Terms) (x y : Term) → IsMerging n left right out (x ∷ xs) (y ∷ ys) → TermBefore y x → IsMerging n left right (out ++ signed_term n y ∷ []) (x ∷ xs) ys
merge_right n left right out xs ys x y m before =
    let s = signed_term n y in
    let nonzero = (head_normal y ys (IsCanonical-split out (y ∷ ys) m.canonical_right).back).nonzero in
    let replaced = canonical_replaced out ys y s refl (signed_nonzero n y.coefficient nonzero) m.canonical_right in
    record {
      canonical_left = rw append_assoc (canonical_before out ys xs s x replaced m.canonical_left before);
      canonical_right = rw append_assoc replaced;
      coefficients = λ e. moved_right (coefficient_at out e) (coefficient_at (x ∷ xs) e) (part_at s e) (signed n (coefficient_at ys e)) (signed n (coefficient_at (y ∷ ys) e)) (coefficient_at left e +ℤ signed n (coefficient_at right e)) (coefficient_at (out ++ s ∷ []) e) (coefficient_at-append out (s ∷ []) e) (signed_first n y ys e) (m.coefficients e);
      weight = omega (arith, m.weight, weight_of-append out (s ∷ []), unsigned_abs-signed n y.coefficient);
      reach = omega (arith, m.reach, largest_reach-append out (s ∷ []));
      length = omega (arith, m.length, length-append out (s ∷ []));
    }

-- the sum of two terms adds what they add
coefficient_at-sum_of_two : (x s : Term) (e : Exponent) → x.exponent ≡ s.exponent → coefficient_at (sum_of_two x s) e ≡ part_at x e +ℤ part_at s e
coefficient_at-sum_of_two x s e same =
    let sum = x.coefficient +ℤ s.coefficient in
    let v = same_exponent x.exponent e in
    let parts : part_at x e +ℤ part_at s e ≡ cond v sum (pos 0) = rw (← same) (choices_add v x.coefficient s.coefficient) in
    elim (int_eq sum (pos 0)) as (λ w. Decides w (sum ≡ pos 0) → coefficient_at (cond w [] (record { exponent = x.exponent; coefficient = sum } ∷ [])) e ≡ part_at x e +ℤ part_at s e) [
      | true ↦ λ decides. sym (parts ∙ rw (decides.0 refl) (nothing v))
      | false ↦ λ decides. with_none (cond v sum (pos 0)) ∙ sym parts
    ] (Decides-int_eq sum (pos 0))
  where
    nothing : (v : Bool) → cond v (pos 0) (pos 0) ≡ pos 0
    nothing true = refl
    nothing false = refl

    with_none : (z : ℤ) → z +ℤ pos 0 ≡ z
    with_none z = omega (arith, ints)

-- the sum of two terms may stand in the place of either
canonical_sum_of_two : (out zs : Terms) (z x s : Term) → z.exponent ≡ x.exponent → IsCanonical (out ++ z ∷ zs) → IsCanonical ((out ++ sum_of_two x s) ++ zs)
canonical_sum_of_two out zs z x s same canonical =
    let sum = x.coefficient +ℤ s.coefficient in
    elim (int_eq sum (pos 0)) as (λ w. Decides w (sum ≡ pos 0) → IsCanonical ((out ++ cond w [] (record { exponent = x.exponent; coefficient = sum } ∷ [])) ++ zs)) [
      | true ↦ λ decides. rw append_assoc (canonical_without out zs z canonical)
      | false ↦ λ decides. rw append_assoc (canonical_replaced out zs z (record { exponent = x.exponent; coefficient = sum }) same (λ zero. false≢true (decides.1 zero)) canonical)
    ] (Decides-int_eq sum (pos 0))

-- the sum of two terms weighs at most what they weigh, reaches no further, and is one term or none
sum_of_two-bounds : (x s : Term) → (weight_of (sum_of_two x s) ≤ unsigned_abs x.coefficient + unsigned_abs s.coefficient) × (largest_reach (sum_of_two x s) ≤ reach_of x.exponent) × (length (sum_of_two x s) ≤ 1)
sum_of_two-bounds x s =
    let sum = x.coefficient +ℤ s.coefficient in
    let t : Term = record { exponent = x.exponent; coefficient = sum } in
    elim (int_eq sum (pos 0)) as (λ w. let j : Terms = cond w [] (t ∷ []) in (weight_of j ≤ unsigned_abs x.coefficient + unsigned_abs s.coefficient) × (largest_reach j ≤ reach_of x.exponent) × (length j ≤ 1)) [
      | true ↦ (omega arith, omega arith, omega arith)
      | false ↦ (omega (arith, unsigned_abs-add x.coefficient s.coefficient), omega arith, omega arith)
    ]

-- the first terms on both sides have one exponent, and their sum is moved
pub merge_both : (n : Bool) (left right out xs ys : Terms) (x y : Term) → IsMerging n left right out (x ∷ xs) (y ∷ ys) → x.exponent ≡ y.exponent → IsMerging n left right (out ++ sum_of_two x (signed_term n y)) xs ys
merge_both n left right out xs ys x y m same =
    let s = signed_term n y in
    let j = sum_of_two x s in
    let bounds = sum_of_two-bounds x s in
    record {
      canonical_left = canonical_sum_of_two out xs x x s refl m.canonical_left;
      canonical_right = canonical_sum_of_two out ys y x s (sym same) m.canonical_right;
      coefficients = λ e. moved_both (coefficient_at out e) (part_at x e) (coefficient_at xs e) (part_at s e) (signed n (coefficient_at ys e)) (signed n (coefficient_at (y ∷ ys) e)) (coefficient_at left e +ℤ signed n (coefficient_at right e)) (coefficient_at j e) (coefficient_at (out ++ j) e) (coefficient_at-append out j e) (coefficient_at-sum_of_two x s e same) (signed_first n y ys e) (m.coefficients e);
      weight = omega (arith, m.weight, weight_of-append out j, bounds.0, unsigned_abs-signed n y.coefficient);
      reach = omega (arith, m.reach, largest_reach-append out j, bounds.1);
      length = omega (arith, m.length, length-append out j, bounds.2);
    }

-- signs keep the one form
keeps_signs : (n : Bool) → Keeps (λ _. Unit {0}) (signed_term n)
keeps_signs n = record {
  normal = λ t p normal. record { half_turn = normal.half_turn; nonzero = signed_nonzero n t.coefficient normal.nonzero };
  order = λ t u p q first second before. before;
}

-- once one side is used up, the rest of the other makes up the whole
pub merge_all : (n : Bool) (left right out xs ys : Terms) → IsMerging n left right out xs ys → (xs ≡ []) ⊎ (ys ≡ []) → IsMerged n left right ((out ++ xs) ++ map (signed_term n) ys)
merge_all n left right out xs ys m used_up =
    let signs = map (signed_term n) ys in
    record {
      canonical = canonical used_up;
      coefficients = λ e. coefficient_at-append (out ++ xs) signs e ∙ ap (λ (z : ℤ). z +ℤ coefficient_at signs e) (coefficient_at-append out xs e) ∙ ap (λ (z : ℤ). (coefficient_at out e +ℤ coefficient_at xs e) +ℤ z) (coefficient_at-signed n ys e) ∙ m.coefficients e;
      weight = omega (arith, m.weight, weight_of-append (out ++ xs) signs, weight_of-append out xs, weight_of-signed n ys);
      reach = omega (arith, m.reach, largest_reach-append (out ++ xs) signs, largest_reach-append out xs, largest_reach-signed n ys);
    }
  where
    right_rest : IsJoin out ys → IsCanonical (out ++ map (signed_term n) ys)
    right_rest join = IsCanonical-join out (map (signed_term n) ys) (record {
      front = join.front;
      back = IsCanonical-map (λ _. Unit {0}) (signed_term n) (keeps_signs n) ys (λ k d in_range. tt) join.back;
      between = λ k d in_range. All-map (TermBefore (get_or out k d)) (signed_term n) ys (join.between k d in_range);
    })

    canonical : (xs ≡ []) ⊎ (ys ≡ []) → IsCanonical ((out ++ xs) ++ map (signed_term n) ys)
    canonical (inl none) = rw (none, append-nil) (right_rest (IsCanonical-split out ys m.canonical_right))
    canonical (inr none) = rw (none, append-nil) m.canonical_left

-- the sum of two numbers that are small enough, as the code makes it
code_sum : (x y : ℤ) → unsigned_abs x ≤ 2 ^ 120 → unsigned_abs y ≤ 2 ^ 120 → to_z w128 (of_z w128 (to_z w128 (of_z w128 x) +ℤ to_z w128 (of_z w128 y))) ≡ x +ℤ y
code_sum x y small_x small_y =
    let bound = unsigned_abs-add x y in
    rw (to_z-of_z w128 x (fits_signed_from_abs w128 x (omega arith)), to_z-of_z w128 y (fits_signed_from_abs w128 y (omega arith)), to_z-of_z w128 (x +ℤ y) (fits_signed_from_abs w128 (x +ℤ y) (omega arith))) refl

-- a sum that is not 0, as the code makes it, is one term
pub sum_of_two-nonzero : (x y a b : Term) → x ≡ a → y ≡ b → unsigned_abs a.coefficient ≤ 2 ^ 120 → unsigned_abs b.coefficient ≤ 2 ^ 120 → (of_z w128 (to_z w128 (of_z w128 x.coefficient) +ℤ to_z w128 (of_z w128 y.coefficient)) ≡ 0 → ⊥) → record { exponent = x.exponent; coefficient = to_z w128 (of_z w128 (to_z w128 (of_z w128 x.coefficient) +ℤ to_z w128 (of_z w128 y.coefficient))) } ∷ [] ≡ sum_of_two a b
sum_of_two-nonzero x y a b read_a read_b small_a small_b nonzero =
    let sum = a.coefficient +ℤ b.coefficient in
    let t : Term = record { exponent = a.exponent; coefficient = sum } in
    let inner : to_z w128 (of_z w128 x.coefficient) +ℤ to_z w128 (of_z w128 y.coefficient) ≡ sum = rw (read_a, read_b, to_z-of_z w128 a.coefficient (fits_signed_from_abs w128 a.coefficient (omega arith)), to_z-of_z w128 b.coefficient (fits_signed_from_abs w128 b.coefficient (omega arith))) refl in
    let made : to_z w128 (of_z w128 (to_z w128 (of_z w128 x.coefficient) +ℤ to_z w128 (of_z w128 y.coefficient))) ≡ sum = rw (read_a, read_b) (code_sum a.coefficient b.coefficient small_a small_b) in
    let same : record { exponent = x.exponent; coefficient = to_z w128 (of_z w128 (to_z w128 (of_z w128 x.coefficient) +ℤ to_z w128 (of_z w128 y.coefficient))) } ≡ t = rw (made, read_a) refl in
    elim (int_eq sum (pos 0)) as (λ w. Decides w (sum ≡ pos 0) → record { exponent = x.exponent; coefficient = to_z w128 (of_z w128 (to_z w128 (of_z w128 x.coefficient) +ℤ to_z w128 (of_z w128 y.coefficient))) } ∷ [] ≡ cond w [] (t ∷ [])) [
      | true ↦ λ decides. absurd (nonzero (ap (of_z w128) (inner ∙ decides.0 refl)))
      | false ↦ λ decides. ap (λ (u : Term). u ∷ []) same
    ] (Decides-int_eq sum (pos 0))

-- the order of two exponents, as they are read
pub before_read : (a b x y : Exponent) → a ≡ x → b ≡ y → ExponentBefore a b → ExponentBefore x y
before_read a b x y first second before = subst (λ (e : Exponent). ExponentBefore x e) second (subst (λ (e : Exponent). ExponentBefore e b) first before)

module _ (n : Bool) (left right out : Terms) (i j : ℕ) (x y : Term) (i_in : i < length left) (j_in : j < length right) (read_left : x ≡ get_or left i x) (read_right : y ≡ get_or right j y) (m : IsMerging n left right out (drop i left) (drop j right)) where
  -- the rest on the left begins with the term that is read
  left_is : drop i left ≡ x ∷ drop (i + 1) left
  left_is = rw add-one (drop-cons left i x i_in ∙ ap (λ (t : Term). t ∷ drop (suc i) left) (sym read_left))

  -- so does the rest on the right
  right_is : drop j right ≡ y ∷ drop (j + 1) right
  right_is = rw add-one (drop-cons right j y j_in ∙ ap (λ (t : Term). t ∷ drop (suc j) right) (sym read_right))

  -- what is left, with both first terms in sight
  opened : IsMerging n left right out (x ∷ drop (i + 1) left) (y ∷ drop (j + 1) right)
  opened = subst (λ (ys : Terms). IsMerging n left right out (x ∷ drop (i + 1) left) ys) right_is (subst (λ (xs : Terms). IsMerging n left right out xs (drop j right)) left_is m)

  -- a step on the left
  pub step_left : TermBefore x y → IsMerging n left right (out ++ x ∷ []) (drop (i + 1) left) (drop j right)
  step_left before = subst (λ (ys : Terms). IsMerging n left right (out ++ x ∷ []) (drop (i + 1) left) ys) (sym right_is) (merge_left n left right out (drop (i + 1) left) (drop (j + 1) right) x y opened before)

  -- a step on the right
  pub step_right : TermBefore y x → IsMerging n left right (out ++ signed_term n y ∷ []) (drop i left) (drop (j + 1) right)
  step_right before = subst (λ (xs : Terms). IsMerging n left right (out ++ signed_term n y ∷ []) xs (drop (j + 1) right)) (sym left_is) (merge_right n left right out (drop (i + 1) left) (drop (j + 1) right) x y opened before)

  -- a step on both sides
  pub step_both : x.exponent ≡ y.exponent → IsMerging n left right (out ++ sum_of_two x (signed_term n y)) (drop (i + 1) left) (drop (j + 1) right)
  step_both same = merge_both n left right out (drop (i + 1) left) (drop (j + 1) right) x y opened same

-- the rest of a list, as the code takes it, is all of the rest
rest_taken : (ts : Terms) (i : ℕ) → take (length ts - i) (drop i ts) ≡ drop i ts
rest_taken ts i = take_all (length ts - i) (drop i ts) (omega (arith, length-drop i ts))

-- once one side is used up, the rest of both sides is appended, and the list is the whole
pub merge_finished : (n : Bool) (left right out longer new : Terms) (i j : ℕ) → IsMerging n left right out (drop i left) (drop j right) → (i ≡ length left) ⊎ (j ≡ length right) → longer ≡ out ++ take (length left - i) (drop i left) → new ≡ longer ++ map (signed_term n) (take (length right - j) (drop j right)) → IsMerged n left right new
merge_finished n left right out longer new i j m used_up extended appended =
    let whole = merge_all n left right out (drop i left) (drop j right) m (elim used_up [
      | inl same ↦ inl (drop_all i left (omega arith))
      | inr same ↦ inr (drop_all j right (omega arith))
    ]) in
    rw (appended, extended, rest_taken left i, rest_taken right j) whole

-- the difference of two numbers with a sign
signed-sub : (n : Bool) (a b : ℤ) → signed n a -ℤ signed n b ≡ signed n (a -ℤ b)
signed-sub true a b = omega (arith, ints)
signed-sub false a b = refl

-- the counts of the whole
pub count-merged : (n : Bool) (left right merged : Terms) → IsMerged n left right merged → (e : Exponent) → count merged e ≡ count left e +ℤ signed n (count right e)
count-merged n left right merged m e =
    let half = with_turns e 256 in
    difference (coefficient_at merged e) (coefficient_at merged half) (coefficient_at left e) (coefficient_at left half) (signed n (coefficient_at right e)) (signed n (coefficient_at right half)) (signed n (count right e)) (m.coefficients e) (m.coefficients half) (signed-sub n (coefficient_at right e) (coefficient_at right half))
  where
    difference : (m m' l l' r r' s : ℤ) → m ≡ l +ℤ r → m' ≡ l' +ℤ r' → r -ℤ r' ≡ s → m -ℤ m' ≡ (l -ℤ l') +ℤ s
    difference m m' l l' r r' s first second third = omega (arith, ints)

-- of no terms, no terms are made
pub none_merged : (n : Bool) (left right : Terms) → left ≡ [] → right ≡ [] → IsMerged n left right []
none_merged n left right h k = rw (h, k) (record {
  canonical = IsCanonical-nil;
  coefficients = λ e. sym (signed-zero n) ∙ sym (zero_sum (signed n (pos 0)));
  weight = omega arith;
  reach = omega arith;
})
  where
    zero_sum : (z : ℤ) → pos 0 +ℤ z ≡ z
    zero_sum z = omega (arith, ints)
