-- Lists in which each element comes before each later one, by a test.
use Rattle.std.proofs.Common.{◌≡◌, ℕ, zero, suc, ◌+◌, ◌<◌, ◌≤◌, Bool, true, false, cond, List, [], ◌∷◌, ◌++◌, map, length, get_or, refl, sym, ap, ◌∙◌, arith, count_by, ltb, lt-ltb, filter, true≢false, ◌⊎◌, inl, inr}
use Rattle.std.specs.List.{flat_map, range_with_len, AllByRecursion}
use Rattle.std.proofs.lemmas.List.Sums.{sum_by-cons}
use Rattle.std.proofs.lemmas.Bool.{cases_order}

-- what holds of everything holds of each element
pub each_of_all : {A : Type 0} (P : A → Type 0) → ((x : A) → P x) → (xs : List A) → AllByRecursion P xs
each_of_all P h [] = tt
each_of_all P h (x ∷ xs) = (h x, each_of_all P h xs)

-- what holds of each element, weakened
pub each_weaker : {A : Type 0} (P Q : A → Type 0) → ((x : A) → P x → Q x) → (xs : List A) → AllByRecursion P xs → AllByRecursion Q xs
each_weaker P Q h [] k = tt
each_weaker P Q h (x ∷ xs) k = (h x k.0, each_weaker P Q h xs k.1)

-- from two facts of each element a third
pub each_both : {A : Type 0} (P Q R : A → Type 0) → ((x : A) → P x → Q x → R x) → (xs : List A) → AllByRecursion P xs → AllByRecursion Q xs → AllByRecursion R xs
each_both P Q R h [] k l = tt
each_both P Q R h (x ∷ xs) k l = (h x k.0 l.0, each_both P Q R h xs k.1 l.1)

-- of each element of two lists end to end
pub each-append : {A : Type 0} (P : A → Type 0) (xs ys : List A) → AllByRecursion P xs → AllByRecursion P ys → AllByRecursion P (xs ++ ys)
each-append P [] ys h k = k
each-append P (x ∷ xs) ys h k = (h.0, each-append P xs ys h.1 k)

-- of each element of a list made by a function
pub each-map : {A B : Type 0} (P : B → Type 0) (f : A → B) (xs : List A) → AllByRecursion (λ x. P (f x)) xs → AllByRecursion P (map f xs)
each-map P f [] h = tt
each-map P f (x ∷ xs) h = (h.0, each-map P f xs h.1)

-- of each element of pieces end to end
pub each-flat_map : {A B : Type 0} (P : B → Type 0) (f : A → List B) (xs : List A) → AllByRecursion (λ x. AllByRecursion P (f x)) xs → AllByRecursion P (flat_map f xs)
each-flat_map P f [] h = tt
each-flat_map P f (x ∷ xs) h = each-append P (f x) (flat_map f xs) h.0 (each-flat_map P f xs h.1)

-- what a filter keeps passes the test, and is in the list
pub each-filter : {A : Type 0} (P : A → Type 0) (test : A → Bool) (xs : List A) → AllByRecursion P xs → AllByRecursion (λ x. P x × (test x ≡ true)) (filter test xs)
each-filter P test [] h = tt
each-filter {A} P test (x ∷ xs) h = by (each-filter P test xs h.1) (test x) refl
  where
    by : AllByRecursion (λ y. P y × (test y ≡ true)) (filter test xs) → (b : Bool) → test x ≡ b → AllByRecursion (λ y. P y × (test y ≡ true)) (cond b (x ∷ filter test xs) (filter test xs))
    by rest true e = ((h.0, e), rest)
    by rest false e = rest

-- the numbers of a range are within it
pub each-range : (a n : ℕ) → AllByRecursion (λ k. (a ≤ k) × (k < a + n)) (range_with_len a n)
each-range a zero = tt
each-range a (suc n) = ((omega arith, omega arith), each_weaker (λ k. (a + 1 ≤ k) × (k < a + 1 + n)) (λ k. (a ≤ k) × (k < a + suc n)) (λ k h. (omega arith, omega arith)) (range_with_len (a + 1) n) (each-range (a + 1) n))

-- each element is before each later one
abbrev pub Rising : {A : Type 0} → (A → A → Bool) → List A → Type 0
Rising before [] = Unit {0}
Rising before (x ∷ xs) = AllByRecursion (λ y. before x y ≡ true) xs × Rising before xs

-- each element of the first list is before each of the second
abbrev pub AllBefore : {A : Type 0} → (A → A → Bool) → List A → List A → Type 0
AllBefore before xs ys = AllByRecursion (λ x. AllByRecursion (λ y. before x y ≡ true) ys) xs

-- two rising lists end to end, where the first is before the second
rising-append : {A : Type 0} (before : A → A → Bool) (xs ys : List A) → Rising before xs → Rising before ys → AllBefore before xs ys → Rising before (xs ++ ys)
rising-append before [] ys h k l = k
rising-append before (x ∷ xs) ys h k l = (each-append (λ y. before x y ≡ true) xs ys h.0 l.0, rising-append before xs ys h.1 k l.1)

-- a rising list made by a function that keeps the order
pub rising-map : {A B : Type 0} (first : A → A → Bool) (before : B → B → Bool) (f : A → B) → ((x y : A) → first x y ≡ true → before (f x) (f y) ≡ true) → (xs : List A) → Rising first xs → Rising before (map f xs)
rising-map first before f h [] k = tt
rising-map first before f h (x ∷ xs) k = (each-map (λ y. before (f x) y ≡ true) f xs (each_weaker (λ y. first x y ≡ true) (λ y. before (f x) (f y) ≡ true) (h x) xs k.0), rising-map first before f h xs k.1)

-- by another test, which holds where the first does of two elements that have a property
pub rising_weaker : {A : Type 0} (P : A → Type 0) (first before : A → A → Bool) → ((x y : A) → P x → P y → first x y ≡ true → before x y ≡ true) → (xs : List A) → AllByRecursion P xs → Rising first xs → Rising before xs
rising_weaker P first before h [] p k = tt
rising_weaker P first before h (x ∷ xs) p k = (each_both P (λ y. first x y ≡ true) (λ y. before x y ≡ true) (λ y q l. h x y p.0 q l) xs p.1 k.0, rising_weaker P first before h xs p.1 k.1)

module _ {A B : Type 0} (first : A → A → Bool) (before : B → B → Bool) (f : A → List B) (across : (x y : A) → first x y ≡ true → AllBefore before (f x) (f y)) where
  -- a piece is before all later pieces
  before_rest : (x : A) (ys : List A) → AllByRecursion (λ y. first x y ≡ true) ys → AllBefore before (f x) (flat_map f ys)
  before_rest x [] h = each_of_all (λ u. AllByRecursion (λ v. before u v ≡ true) []) (λ u. tt) (f x)
  before_rest x (y ∷ ys) h =
      each_both (λ u. AllByRecursion (λ v. before u v ≡ true) (f y)) (λ u. AllByRecursion (λ v. before u v ≡ true) (flat_map f ys)) (λ u. AllByRecursion (λ v. before u v ≡ true) (f y ++ flat_map f ys))
      (λ u p q. each-append (λ v. before u v ≡ true) (f y) (flat_map f ys) p q)
      (f x) (across x y h.0) (before_rest x ys h.1)

  -- rising pieces, of which each is before each later one, end to end
  pub rising-flat_map : ((x : A) → Rising before (f x)) → (xs : List A) → Rising first xs → Rising before (flat_map f xs)
  rising-flat_map each [] k = tt
  rising-flat_map each (x ∷ xs) k = rising-append before (f x) (flat_map f xs) (each x) (rising-flat_map each xs k.1) (before_rest x xs k.0)

-- the numbers of a range rise
pub rising-range : (a n : ℕ) → Rising ltb (range_with_len a n)
rising-range a zero = tt
rising-range a (suc n) = (each_weaker (λ k. (a + 1 ≤ k) × (k < a + 1 + n)) (λ k. ltb a k ≡ true) (λ k h. lt-ltb a k (omega arith)) (range_with_len (a + 1) n) (each-range (a + 1) n), rising-range (a + 1) n)

-- an element is before each of those at later places
pub rising_at : {A : Type 0} (before : A → A → Bool) (xs : List A) (i j : ℕ) (e : A) → Rising before xs → i < j → j < length xs → before (get_or xs i e) (get_or xs j e) ≡ true
rising_at before [] i j e h k l = absurd (omega arith)
rising_at before (x ∷ xs) i zero e h k l = absurd (omega arith)
rising_at before (x ∷ xs) zero (suc j) e h k l = each_at (λ y. before x y ≡ true) xs j e h.0 (omega arith)
  where
    each_at : {C : Type 0} (P : C → Type 0) (ys : List C) (n : ℕ) (d : C) → AllByRecursion P ys → n < length ys → P (get_or ys n d)
    each_at P [] n d p q = absurd (omega arith)
    each_at P (y ∷ ys) zero d p q = p.0
    each_at P (y ∷ ys) (suc n) d p q = each_at P ys n d p.1 (omega arith)
rising_at before (x ∷ xs) (suc i) (suc j) e h k l = rising_at before xs i j e h.1 (omega arith) (omega arith)

-- what a count adds for one element
abbrev one_if : Bool → ℕ
one_if b = cond b 1 0

module _ {A : Type 0} (before : A → A → Bool) (irrefl : (x : A) → before x x ≡ false) (asym : (x y : A) → before x y ≡ true → before y x ≡ false) where
  -- where x is before each element, none is before x
  none_earlier : (x : A) (xs : List A) → AllByRecursion (λ y. before x y ≡ true) xs → count_by (λ d. before d x) xs ≡ 0
  none_earlier x [] h = refl
  none_earlier x (y ∷ ys) h =
      let not_earlier : before y x ≡ false = asym x y h.0 in
      let here : one_if (before y x) ≡ 0 = ap one_if not_earlier in
      omega (arith, sum_by-cons (λ d. one_if (before d x)) y ys, here, none_earlier x ys h.1)

  -- in a rising list, as many elements are before the one at a place as there are places before it
  pub count_earlier : (xs : List A) (r : ℕ) (e : A) → Rising before xs → r < length xs → count_by (λ d. before d (get_or xs r e)) xs ≡ r
  count_earlier [] r e h k = absurd (omega arith)
  count_earlier (x ∷ xs) zero e h k =
      let here : one_if (before x x) ≡ 0 = ap one_if (irrefl x) in
      omega (arith, sum_by-cons (λ d. one_if (before d x)) x xs, here, none_earlier x xs h.0)
  count_earlier (x ∷ xs) (suc r) e h k =
      let within : r < length xs = omega arith in
      let earlier : before x (get_or xs r e) ≡ true = rising_at before (x ∷ xs) 0 (suc r) e h (omega arith) k in
      let here : one_if (before x (get_or xs r e)) ≡ 1 = ap one_if earlier in
      omega (arith, sum_by-cons (λ d. one_if (before d (get_or xs r e))) x xs, here, count_earlier xs r e h.1 within)

  -- in a rising list, one element is before another exactly where its place is
  pub places_earlier : (xs : List A) (r s : ℕ) (e : A) → Rising before xs → r < length xs → s < length xs → before (get_or xs r e) (get_or xs s e) ≡ true → r < s
  places_earlier xs r s e h k l earlier = by (cases_order r s)
    where
      by : (r ≡ s) ⊎ ((r < s) ⊎ (s < r)) → r < s
      by (inr (inl p)) = p
      by (inl p) = absurd (true≢false (sym earlier ∙ ap (λ n. before (get_or xs r e) (get_or xs n e)) (sym p) ∙ irrefl (get_or xs r e)))
      by (inr (inr p)) = absurd (true≢false (sym earlier ∙ asym (get_or xs s e) (get_or xs r e) (rising_at before xs s r e h p k)))
