-- How many of some in order are before another one, and what it tells of each of them and of the one put in.
use Rattle.std.proofs.Common.{◌≡◌, ◌<◌, ◌≤◌, ℕ, zero, suc, ◌+◌, inl, inr, Bool, true, false, cond, ◌||◌, ltb, List, [], ◌∷◌, ◌++◌, length, take, drop, get_or, count_by, refl, sym, ap, ◌∙◌, Less, Equal, Greater, arith}
use Rattle.std.specs.declared.cmp.Ordering.{Ordering}
use Rattle.std.specs.Ordering.{match_ordering, ordering_reverse, is_lt, is_eq, eq_by_cmp}
use Rattle.std.specs.List.{list_any}
use Rattle.std.specs.Cmp.{IsTotalOrder}
use Rattle.std.specs.BTreeSet.{insert_key}
use Rattle.std.proofs.lemmas.List.Sums.{sum_by-cons}
use Rattle.std.proofs.lemmas.Bool.Decides.{nat_tests}
use Rattle.qz_queue.proofs.DifferentOnes.{Has, Strict}

module _ {K : Type 0} {R : K → K → Ordering} (o : IsTotalOrder R) where
  -- how many are before c
  abbrev pub earlier : List K → K → ℕ
  earlier xs c = count_by (λ d. is_lt (R d c)) xs

  count_front : (x : K) (xs : List K) (c : K) → earlier (x ∷ xs) c ≡ cond (is_lt (R x c)) 1 0 + earlier xs c
  count_front x xs c = sum_by-cons (λ d. cond (is_lt (R d c)) 1 0) x xs

  -- where those of a list are after x, and c isn't, none is before c
  none_before : (x c : K) (xs : List K) → ((k : K) → Has xs k → R x k ≡ Less) → is_lt (R x c) ≡ false → (k : K) → Has xs k → R k c ≡ Greater
  none_before x c xs s h k g = by (R x c) (R k c) refl refl h
    where
      by : (p q : Ordering) → R x c ≡ p → R k c ≡ q → is_lt p ≡ false → q ≡ Greater
      by Less q e f l = cc
      by Equal q e f l = sym f ∙ (o.antisymm k c ∙ ap ordering_reverse (sym (o.congr x c k e) ∙ s k g))
      by Greater q e f l =
          sym f ∙ (o.antisymm k c ∙ ap ordering_reverse (o.trans c x k (o.antisymm c x ∙ ap ordering_reverse e) (s k g)))

  count_none : (c : K) (xs : List K) → ((k : K) → Has xs k → R k c ≡ Greater) → earlier xs c ≡ 0
  count_none c [] h = refl
  count_none c (x ∷ xs) h =
      count_front x xs c ∙ (λ i. cond (is_lt (h x (inl refl) i)) 1 0 + count_none c xs (λ k g. h k (inr g)) i) ∙ omega arith

  -- how many are before c: of a list in order one more where the first is, and else none
  pub earlier_more : (x : K) (xs : List K) (c : K) → is_lt (R x c) ≡ true → earlier (x ∷ xs) c ≡ suc (earlier xs c)
  earlier_more x xs c h = let e = ap {B = ℕ} (λ b. cond b 1 0) h in omega (arith, count_front x xs c, e)

  pub earlier_none : (x : K) (xs : List K) (c : K) → Strict R (x ∷ xs) → is_lt (R x c) ≡ false → earlier (x ∷ xs) c ≡ 0
  earlier_none x xs c s h =
      let e = ap {B = ℕ} (λ b. cond b 1 0) h in
      let n = count_none c xs (none_before x c xs s.0 h) in
      omega (arith, count_front x xs c, e, n)

  -- one of a list in order is before c where its place is below the number of those that are
  pub place_tells : (xs : List K) (c : K) (m : ℕ) (d : K) → Strict R xs → m < length xs → is_lt (R (get_or xs m d) c) ≡ ltb m (earlier xs c)
  place_tells [] c m d s h = absurd (omega arith)
  place_tells (x ∷ xs) c m d s h = by (is_lt (R x c)) m refl h (place_tells xs c)
    where
      rest : (n : ℕ) → is_lt (R x c) ≡ false → n < length xs → is_lt (R (get_or xs n d) c) ≡ false
      rest n f l = ap is_lt (none_before x c xs s.0 f (get_or xs n d) (has_at xs n l))
        where
          has_at : (ys : List K) (n : ℕ) → n < length ys → Has ys (get_or ys n d)
          has_at [] n l = absurd (omega arith)
          has_at (y ∷ ys) zero l = inl refl
          has_at (y ∷ ys) (suc n) l = inr (has_at ys n (omega arith))

      by : (b : Bool) (m : ℕ) → is_lt (R x c) ≡ b → m < length (x ∷ xs) → ((m : ℕ) (d : K) → Strict R xs → m < length xs → is_lt (R (get_or xs m d) c) ≡ ltb m (earlier xs c)) → is_lt (R (get_or (x ∷ xs) m d) c) ≡ ltb m (earlier (x ∷ xs) c)
      by true zero e l ih = let n = earlier_more x xs c e in grind (arith, nat_tests)
      by true (suc n) e l ih = let k = earlier_more x xs c e in let g = ih n d s.1 (omega arith) in grind (arith, nat_tests)
      by false zero e l ih = let n = earlier_none x xs c s e in grind (arith, nat_tests)
      by false (suc n) e l ih = let k = earlier_none x xs c s e in let g = rest n e (omega arith) in grind (arith, nat_tests)

  or_false : (b : Bool) → b || false ≡ b
  or_false true = refl
  or_false false = refl

  any_none : (c : K) (xs : List K) → ((k : K) → Has xs k → R k c ≡ Greater) → list_any (eq_by_cmp R c) xs ≡ false
  any_none c [] h = refl
  any_none c (x ∷ xs) h =
      let first = o.antisymm c x ∙ ap ordering_reverse (h x (inl refl)) in
      λ i. is_eq (first i) || any_none c xs (λ k g. h k (inr g)) i

  -- c itself is in a list in order where the one at that place is equal to it, and nowhere else
  pub among_at : (xs : List K) (c d : K) → Strict R xs → earlier xs c < length xs → list_any (eq_by_cmp R c) xs ≡ eq_by_cmp R c (get_or xs (earlier xs c) d)
  among_at [] c d s h = absurd (omega arith)
  among_at (x ∷ xs) c d s h = by (R c x) refl (among_at xs c d s.1)
    where
      at_first : is_lt (R x c) ≡ false → list_any (eq_by_cmp R c) (x ∷ xs) ≡ eq_by_cmp R c (get_or (x ∷ xs) (earlier (x ∷ xs) c) d)
      at_first f =
          (λ i. is_eq (R c x) || any_none c xs (none_before x c xs s.0 f) i) ∙ or_false (is_eq (R c x)) ∙ (λ i. eq_by_cmp R c (get_or (x ∷ xs) (sym (earlier_none x xs c s f) i) d))

      by : (r : Ordering) → R c x ≡ r → (earlier xs c < length xs → list_any (eq_by_cmp R c) xs ≡ eq_by_cmp R c (get_or xs (earlier xs c) d)) → list_any (eq_by_cmp R c) (x ∷ xs) ≡ eq_by_cmp R c (get_or (x ∷ xs) (earlier (x ∷ xs) c) d)
      by Less e ih = at_first (ap is_lt (o.antisymm x c ∙ ap ordering_reverse e))
      by Equal e ih = at_first (ap is_lt (o.antisymm x c ∙ ap ordering_reverse e))
      by Greater e ih =
          let more = earlier_more x xs c (ap is_lt (o.antisymm x c ∙ ap ordering_reverse e)) in
          (λ i. is_eq (e i) || list_any (eq_by_cmp R c) xs) ∙ ih (omega arith) ∙ (λ i. eq_by_cmp R c (get_or (x ∷ xs) (sym more i) d))

  pub among_past : (xs : List K) (c : K) → Strict R xs → length xs ≤ earlier xs c → list_any (eq_by_cmp R c) xs ≡ false
  among_past [] c s h = refl
  among_past (x ∷ xs) c s h = by (R c x) refl (among_past xs c s.1)
    where
      not_first : is_lt (R x c) ≡ false → list_any (eq_by_cmp R c) (x ∷ xs) ≡ false
      not_first f = let none = earlier_none x xs c s f in absurd (omega arith)

      by : (r : Ordering) → R c x ≡ r → (length xs ≤ earlier xs c → list_any (eq_by_cmp R c) xs ≡ false) → list_any (eq_by_cmp R c) (x ∷ xs) ≡ false
      by Less e ih = not_first (ap is_lt (o.antisymm x c ∙ ap ordering_reverse e))
      by Equal e ih = not_first (ap is_lt (o.antisymm x c ∙ ap ordering_reverse e))
      by Greater e ih =
          let more = earlier_more x xs c (ap is_lt (o.antisymm x c ∙ ap ordering_reverse e)) in
          (λ i. is_eq (e i) || list_any (eq_by_cmp R c) xs) ∙ ih (omega arith)

  -- where it isn't there, it is put in at that place
  pub put_in : (xs : List K) (c : K) → Strict R xs → list_any (eq_by_cmp R c) xs ≡ false → insert_key R xs c ≡ take (earlier xs c) xs ++ c ∷ drop (earlier xs c) xs
  put_in [] c s h = refl
  put_in (x ∷ xs) c s h = by (R c x) refl (put_in xs c s.1) h
    where
      by : (r : Ordering) → R c x ≡ r → (list_any (eq_by_cmp R c) xs ≡ false → insert_key R xs c ≡ take (earlier xs c) xs ++ c ∷ drop (earlier xs c) xs) → is_eq r || list_any (eq_by_cmp R c) xs ≡ false
          → match_ordering r (c ∷ x ∷ xs) (x ∷ xs) (x ∷ insert_key R xs c) ≡ take (earlier (x ∷ xs) c) (x ∷ xs) ++ c ∷ drop (earlier (x ∷ xs) c) (x ∷ xs)
      by Less e ih g =
          let none = earlier_none x xs c s (ap is_lt (o.antisymm x c ∙ ap ordering_reverse e)) in
          λ i. take (sym none i) (x ∷ xs) ++ c ∷ drop (sym none i) (x ∷ xs)
      by Equal e ih g = cc
      by Greater e ih g =
          let more = earlier_more x xs c (ap is_lt (o.antisymm x c ∙ ap ordering_reverse e)) in
          ap (λ ys. x ∷ ys) (ih g) ∙ (λ i. take (sym more i) (x ∷ xs) ++ c ∷ drop (sym more i) (x ∷ xs))

  -- where it is there, the list stays
  pub there_already : (xs : List K) (c : K) → Strict R xs → list_any (eq_by_cmp R c) xs ≡ true → insert_key R xs c ≡ xs
  there_already [] c s h = cc
  there_already (x ∷ xs) c s h = by (R c x) refl (there_already xs c s.1) h
    where
      by : (r : Ordering) → R c x ≡ r → (list_any (eq_by_cmp R c) xs ≡ true → insert_key R xs c ≡ xs) → is_eq r || list_any (eq_by_cmp R c) xs ≡ true → match_ordering r (c ∷ x ∷ xs) (x ∷ xs) (x ∷ insert_key R xs c) ≡ x ∷ xs
      by Less e ih g =
          let none = any_none c xs (none_before x c xs s.0 (ap is_lt (o.antisymm x c ∙ ap ordering_reverse e))) in cc
      by Equal e ih g = refl
      by Greater e ih g = ap (λ ys. x ∷ ys) (ih g)
