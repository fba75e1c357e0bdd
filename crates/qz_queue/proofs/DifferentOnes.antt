-- The different ones of a list in order: which they are, and that the first of them need only the first of a part.
use Rattle.std.proofs.Common.{◌≡◌, ℕ, zero, suc, ◌⊎◌, inl, inr, List, [], ◌∷◌, ◌++◌, take, drop, refl, sym, ap, ◌∙◌, Less, Equal, Greater, arith}
use Rattle.std.specs.declared.cmp.Ordering.{Ordering}
use Rattle.std.specs.Ordering.{match_ordering, ordering_reverse}
use Rattle.std.specs.Cmp.{IsTotalOrder}
use Rattle.std.specs.BTreeSet.{insert_key}
use Rattle.std.proofs.lemmas.List.{take-take}
use Rattle.std.proofs.lemmas.Map.Lookups.{CmpEqualImpliesEq}
use Rattle.qz_circ.specs.Queue.{different, first_cap}

module _ {K : Type 0} where
  -- k is one of the list
  abbrev pub Has : List K → K → Type 0
  Has [] k = ⊥
  Has (x ∷ xs) k = (x ≡ k) ⊎ Has xs k

  pub has_append : (xs ys : List K) (k : K) → Has (xs ++ ys) k → Has xs k ⊎ Has ys k
  has_append [] ys k h = inr h
  has_append (x ∷ xs) ys k (inl e) = inl (inl e)
  has_append (x ∷ xs) ys k (inr h) = elim (has_append xs ys k h) [ inl g ↦ inl (inr g) | inr g ↦ inr g ]

  pub has_left : (xs ys : List K) (k : K) → Has xs k → Has (xs ++ ys) k
  has_left [] ys k h = absurd h
  has_left (x ∷ xs) ys k (inl e) = inl e
  has_left (x ∷ xs) ys k (inr h) = inr (has_left xs ys k h)

  pub has_right : (xs ys : List K) (k : K) → Has ys k → Has (xs ++ ys) k
  has_right [] ys k h = h
  has_right (x ∷ xs) ys k h = inr (has_right xs ys k h)

  pub has_swap : (xs ys : List K) (k : K) → Has (xs ++ ys) k → Has (ys ++ xs) k
  has_swap xs ys k h = elim (has_append xs ys k h) [ inl g ↦ has_right ys xs k g | inr g ↦ has_left ys xs k g ]

  pub has_take : (n : ℕ) (xs : List K) (k : K) → Has (take n xs) k → Has xs k
  has_take zero xs k h = absurd h
  has_take (suc n) [] k h = h
  has_take (suc n) (x ∷ xs) k (inl e) = inl e
  has_take (suc n) (x ∷ xs) k (inr h) = inr (has_take n xs k h)

  pub has_drop : (n : ℕ) (xs : List K) (k : K) → Has (drop n xs) k → Has xs k
  has_drop zero xs k h = h
  has_drop (suc n) [] k h = h
  has_drop (suc n) (x ∷ xs) k h = inr (has_drop n xs k h)

  pub has_moved : (x : K) (xs ys : List K) (k : K) → Has (x ∷ xs ++ ys) k → Has (xs ++ x ∷ ys) k
  has_moved x xs ys k (inl e) = has_right xs (x ∷ ys) k (inl e)
  has_moved x xs ys k (inr h) =
      elim (has_append xs ys k h) [ inl g ↦ has_left xs (x ∷ ys) k g | inr g ↦ has_right xs (x ∷ ys) k (inr g) ]

  pub has_moved_back : (x : K) (xs ys : List K) (k : K) → Has (xs ++ x ∷ ys) k → Has (x ∷ xs ++ ys) k
  has_moved_back x xs ys k h =
      elim (has_append xs (x ∷ ys) k h) [ inl g ↦ inr (has_left xs ys k g) | inr g ↦ elim g [ inl e ↦ inl e | inr f ↦ inr (has_right xs ys k f) ] ]

module _ {K : Type 0} (R : K → K → Ordering) where
  -- each is before those after it
  abbrev pub Strict : List K → Type 0
  Strict [] = Unit {0}
  Strict (x ∷ xs) = ((k : K) → Has xs k → R x k ≡ Less) × Strict xs

  pub strict_take : (n : ℕ) (xs : List K) → Strict xs → Strict (take n xs)
  strict_take zero xs s = tt
  strict_take (suc n) [] s = s
  strict_take (suc n) (x ∷ xs) s = (λ k h. s.0 k (has_take n xs k h), strict_take n xs s.1)

  pub strict_drop : (n : ℕ) (xs : List K) → Strict xs → Strict (drop n xs)
  strict_drop zero xs s = s
  strict_drop (suc n) [] s = s
  strict_drop (suc n) (x ∷ xs) s = strict_drop n xs s.1

  take_front : (n : ℕ) (x : K) (xs : List K) → take n (x ∷ take n xs) ≡ take n (x ∷ xs)
  take_front zero x xs = refl
  take_front (suc n) x xs = ap (λ ys. x ∷ ys) (take-take n (suc n) xs (omega arith))

  -- whether one more is among the first shows in the first alone
  pub take_insert : (n : ℕ) (xs : List K) (x : K) → take n (insert_key R (take n xs) x) ≡ take n (insert_key R xs x)
  take_insert zero xs x = refl
  take_insert (suc n) [] x = refl
  take_insert (suc n) (y ∷ ys) x = by (R x y) (take_insert n ys x)
    where
      by : (r : Ordering) → take n (insert_key R (take n ys) x) ≡ take n (insert_key R ys x)
          → take (suc n) (match_ordering r (x ∷ y ∷ take n ys) (y ∷ take n ys) (y ∷ insert_key R (take n ys) x)) ≡ take (suc n) (match_ordering r (x ∷ y ∷ ys) (y ∷ ys) (y ∷ insert_key R ys x))
      by Less h = ap (λ zs. x ∷ zs) (take_front n y ys)
      by Equal h = ap (λ zs. y ∷ zs) (take-take n n ys (omega arith))
      by Greater h = ap (λ zs. y ∷ zs) h

  first_cons : (n : ℕ) (x : K) (xs ys : List K) → first_cap R n xs ≡ first_cap R n ys → first_cap R n (x ∷ xs) ≡ first_cap R n (x ∷ ys)
  unfolding first_cap different
  first_cons n x xs ys h =
      sym (take_insert n (different R xs) x) ∙ ap (λ zs. take n (insert_key R zs x)) h ∙ take_insert n (different R ys) x

  -- the first of a list depend on the first of its back alone
  pub first_left : (n : ℕ) (zs xs ys : List K) → first_cap R n xs ≡ first_cap R n ys → first_cap R n (zs ++ xs) ≡ first_cap R n (zs ++ ys)
  first_left n [] xs ys h = h
  first_left n (z ∷ zs) xs ys h = first_cons n z (zs ++ xs) (zs ++ ys) (first_left n zs xs ys h)

module _ {K : Type 0} {R : K → K → Ordering} (o : IsTotalOrder R) (exact : CmpEqualImpliesEq R) where
  turned : (x y : K) → R x y ≡ Greater → R y x ≡ Less
  turned x y h = o.antisymm y x ∙ ap ordering_reverse h

  has_inserted : (x k : K) (xs : List K) → Has (insert_key R xs x) k → (x ≡ k) ⊎ Has xs k
  has_inserted x k [] h = h
  has_inserted x k (y ∷ ys) h = by (R x y) (has_inserted x k ys) h
    where
      by : (r : Ordering) → (Has (insert_key R ys x) k → (x ≡ k) ⊎ Has ys k) → Has (match_ordering r (x ∷ y ∷ ys) (y ∷ ys) (y ∷ insert_key R ys x)) k → (x ≡ k) ⊎ ((y ≡ k) ⊎ Has ys k)
      by Less s g = g
      by Equal s g = inr g
      by Greater s (inl e) = inr (inl e)
      by Greater s (inr g) = elim (s g) [ inl e ↦ inl e | inr f ↦ inr (inr f) ]

  inserted_has : (x k : K) (xs : List K) → (x ≡ k) ⊎ Has xs k → Has (insert_key R xs x) k
  inserted_has x k [] h = h
  inserted_has x k (y ∷ ys) h = by (R x y) refl (inserted_has x k ys) h
    where
      by : (r : Ordering) → R x y ≡ r → ((x ≡ k) ⊎ Has ys k → Has (insert_key R ys x) k) → (x ≡ k) ⊎ ((y ≡ k) ⊎ Has ys k) → Has (match_ordering r (x ∷ y ∷ ys) (y ∷ ys) (y ∷ insert_key R ys x)) k
      by Less e s g = g
      by Equal e s (inl g) = inl (sym (exact x y e) ∙ g)
      by Equal e s (inr g) = g
      by Greater e s (inl g) = inr (s (inl g))
      by Greater e s (inr (inl g)) = inl g
      by Greater e s (inr (inr g)) = inr (s (inr g))

  strict_inserted : (xs : List K) (x : K) → Strict R xs → Strict R (insert_key R xs x)
  strict_inserted [] x s = (λ k h. absurd h, tt)
  strict_inserted (y ∷ ys) x s = by (R x y) refl (strict_inserted ys x s.1)
    where
      by : (r : Ordering) → R x y ≡ r → Strict R (insert_key R ys x) → Strict R (match_ordering r (x ∷ y ∷ ys) (y ∷ ys) (y ∷ insert_key R ys x))
      by Less e t = (λ k h. elim h [ inl g ↦ ap (R x) (sym g) ∙ e | inr g ↦ o.trans x y k e (s.0 k g) ], s)
      by Equal e t = s
      by Greater e t =
          (λ k h. elim (has_inserted x k ys h) [ inl g ↦ ap (R y) (sym g) ∙ turned x y e | inr g ↦ s.0 k g ], t)

  pub strict_different : (xs : List K) → Strict R (different R xs)
  unfolding different
  strict_different [] = tt
  strict_different (x ∷ xs) = strict_inserted (different R xs) x (strict_different xs)

  pub has_different : (k : K) (xs : List K) → Has (different R xs) k → Has xs k
  unfolding different
  has_different k [] h = h
  has_different k (x ∷ xs) h = elim (has_inserted x k (different R xs) h) [ inl e ↦ inl e | inr g ↦ inr (has_different k xs g) ]

  pub different_has : (k : K) (xs : List K) → Has xs k → Has (different R xs) k
  unfolding different
  different_has k [] h = h
  different_has k (x ∷ xs) (inl e) = inserted_has x k (different R xs) (inl e)
  different_has k (x ∷ xs) (inr h) = inserted_has x k (different R xs) (inr (different_has k xs h))

  never_both : (x y : K) → R x y ≡ Less → R y x ≡ Less → ⊥
  never_both x y h g = let e = sym h ∙ o.antisymm x y ∙ ap ordering_reverse g in cc

  never_itself : (x : K) → R x x ≡ Less → ⊥
  never_itself x h = never_both x x h h

  -- two lists in order with the same ones are the same
  pub strict_same : (xs ys : List K) → Strict R xs → Strict R ys → ((k : K) → Has xs k → Has ys k) → ((k : K) → Has ys k → Has xs k) → xs ≡ ys
  strict_same [] [] s t f g = refl
  strict_same [] (y ∷ ys) s t f g = absurd (g y (inl refl))
  strict_same (x ∷ xs) [] s t f g = absurd (f x (inl refl))
  strict_same (x ∷ xs) (y ∷ ys) s t f g =
      let first : x ≡ y = by (f x (inl refl)) (g y (inl refl)) in
      let rest : xs ≡ ys =
      strict_same xs ys s.1 t.1 (λ k h. after x y k ys (s.0 k h) first (f k (inr h))) (λ k h. after y x k xs (t.0 k h) (sym first) (g k (inr h))) in
      cc
    where
      by : (y ≡ x) ⊎ Has ys x → (x ≡ y) ⊎ Has xs y → x ≡ y
      by (inl e) q = sym e
      by (inr h) (inl e) = e
      by (inr h) (inr q) = absurd (never_both x y (s.0 y q) (t.0 x h))

      after : (a b k : K) (zs : List K) → R a k ≡ Less → a ≡ b → (b ≡ k) ⊎ Has zs k → Has zs k
      after a b k zs h e (inl q) = absurd (never_itself a (ap (R a) (e ∙ q) ∙ h))
      after a b k zs h e (inr q) = q

  pub different_strict : (xs : List K) → Strict R xs → different R xs ≡ xs
  different_strict xs s =
      strict_same (different R xs) xs (strict_different xs) s (λ k. has_different k xs) (λ k. different_has k xs)

  pub different_same : (xs ys : List K) → ((k : K) → Has xs k → Has ys k) → ((k : K) → Has ys k → Has xs k) → different R xs ≡ different R ys
  different_same xs ys f g =
      strict_same (different R xs) (different R ys) (strict_different xs) (strict_different ys) (λ k h. different_has k ys (f k (has_different k xs h))) (λ k h. different_has k xs (g k (has_different k ys h)))

  pub first_same : (n : ℕ) (xs ys : List K) → ((k : K) → Has xs k → Has ys k) → ((k : K) → Has ys k → Has xs k) → first_cap R n xs ≡ first_cap R n ys
  unfolding first_cap
  first_same n xs ys f g = ap (take n) (different_same xs ys f g)

  pub first_swap : (n : ℕ) (xs ys : List K) → first_cap R n (xs ++ ys) ≡ first_cap R n (ys ++ xs)
  first_swap n xs ys = first_same n (xs ++ ys) (ys ++ xs) (has_swap xs ys) (has_swap ys xs)

  pub first_right : (n : ℕ) (xs ys zs : List K) → first_cap R n xs ≡ first_cap R n ys → first_cap R n (xs ++ zs) ≡ first_cap R n (ys ++ zs)
  first_right n xs ys zs h = first_swap n xs zs ∙ first_left R n zs xs ys h ∙ first_swap n zs ys

  pub strict_first : (n : ℕ) (xs : List K) → Strict R (first_cap R n xs)
  unfolding first_cap
  strict_first n xs = strict_take R n (different R xs) (strict_different xs)

  -- the first of the first are the same again
  pub first_twice : (n : ℕ) (xs : List K) → first_cap R n (first_cap R n xs) ≡ first_cap R n xs
  unfolding first_cap
  first_twice n xs =
      ap (take n) (different_strict (take n (different R xs)) (strict_take R n (different R xs) (strict_different xs))) ∙ take-take n n (different R xs) (omega arith)

  -- one is put into the first of the others, or into the rest, alike
  pub first_moved : (n : ℕ) (x : K) (xs ys : List K) → first_cap R n (first_cap R n (x ∷ xs) ++ ys) ≡ first_cap R n (xs ++ x ∷ ys)
  first_moved n x xs ys =
      first_right n (first_cap R n (x ∷ xs)) (x ∷ xs) ys (first_twice n (x ∷ xs)) ∙ first_same n (x ∷ xs ++ ys) (xs ++ x ∷ ys) (has_moved x xs ys) (has_moved_back x xs ys)
