-- Sums over the views of all passes, where one of them changes.
use Rattle.std.proofs.Common.{◌≡◌, ◌≢◌, ℕ, zero, suc, ◌+◌, ◌<◌, ◌≤◌, Bool, true, false, cond, Contains, List, [], ◌∷◌, set, sym, refl, ap, arith}
use Rattle.std.specs.List.{sum_by, count_by}
use Rattle.std.proofs.lemmas.List.Sums.{sum_by-cons}
use mathlib.Core.Option.{some, some-injective, some-ne-none}
use lib.ListN.{get_elem?}
use Rattle.qz_circ.proofs.ClassLaws.{contains_first, contains_rest}

module _ {A : Type 0} (f : A → ℕ) where
  -- one element is replaced
  pub sum-set : (l : List A) (k : ℕ) (v w : A) → get_elem? l k ≡ some v → sum_by f (set l k w) + f v ≡ sum_by f l + f w
  sum-set [] k v w at = absurd (some-ne-none v (sym at))
  sum-set (x ∷ xs) zero v w at =
      let same : f x ≡ f v = ap f (some-injective x v at) in
      omega (arith, sum_by-cons f w xs, sum_by-cons f x xs)
  sum-set (x ∷ xs) (suc k) v w at = omega (arith, sum_by-cons f x (set xs k w), sum_by-cons f x xs, sum-set xs k v w at)

  -- one element has no more than all
  pub one_le : (l : List A) (k : ℕ) (v : A) → get_elem? l k ≡ some v → f v ≤ sum_by f l
  one_le [] k v at = absurd (some-ne-none v (sym at))
  one_le (x ∷ xs) zero v at = let same : f x ≡ f v = ap f (some-injective x v at) in omega (arith, sum_by-cons f x xs)
  one_le (x ∷ xs) (suc k) v at = omega (arith, sum_by-cons f x xs, one_le xs k v at)

  -- nor have two
  pub two_le : (l : List A) (j k : ℕ) (u v : A) → j ≢ k → get_elem? l j ≡ some u → get_elem? l k ≡ some v → f u + f v ≤ sum_by f l
  two_le [] j k u v apart there at = absurd (some-ne-none v (sym at))
  two_le (x ∷ xs) zero zero u v apart there at = absurd (apart refl)
  two_le (x ∷ xs) zero (suc k) u v apart there at =
      let same : f x ≡ f u = ap f (some-injective x u there) in
      omega (arith, sum_by-cons f x xs, one_le xs k v at)
  two_le (x ∷ xs) (suc j) zero u v apart there at =
      let same : f x ≡ f v = ap f (some-injective x v at) in
      omega (arith, sum_by-cons f x xs, one_le xs j u there)
  two_le (x ∷ xs) (suc j) (suc k) u v apart there at =
      omega (arith, sum_by-cons f x xs, two_le xs j k u v (λ e. apart (ap suc e)) there at)

  -- nothing is in any
  pub none-sum : (l : List A) → ((k : ℕ) (u : A) → get_elem? l k ≡ some u → f u ≡ 0) → sum_by f l ≡ 0
  none-sum [] each = refl
  none-sum (x ∷ xs) each =
      let here = each 0 x refl in
      omega (arith, sum_by-cons f x xs, none-sum xs (λ k u at. each (suc k) u at))

module _ {A : Type 0} (f g : A → ℕ) where
  -- where each has no more of f than of g, all together have not
  pub less_all : (l : List A) → ((j : ℕ) (u : A) → get_elem? l j ≡ some u → f u ≤ g u) → sum_by f l ≤ sum_by g l
  less_all [] each = omega arith
  less_all (x ∷ xs) each =
      let here = each 0 x refl in
      omega (arith, sum_by-cons f x xs, sum_by-cons g x xs, less_all xs (λ j u there. each (suc j) u there))

  -- nor have all others than one
  pub less_at : (l : List A) (k : ℕ) (v : A) → ((j : ℕ) (u : A) → get_elem? l j ≡ some u → f u ≤ g u) → get_elem? l k ≡ some v → sum_by f l + g v ≤ sum_by g l + f v
  less_at [] k v each at = absurd (some-ne-none v (sym at))
  less_at (x ∷ xs) zero v each at =
      let one : f x ≡ f v = ap f (some-injective x v at) in
      let two : g x ≡ g v = ap g (some-injective x v at) in
      omega (arith, sum_by-cons f x xs, sum_by-cons g x xs, less_all xs (λ j u there. each (suc j) u there))
  less_at (x ∷ xs) (suc k) v each at =
      let here = each 0 x refl in
      omega (arith, sum_by-cons f x xs, sum_by-cons g x xs, less_at xs k v (λ j u there. each (suc j) u there) at)

  -- where one has all of g, and who has nothing of g has nothing of f, it has all of f
  pub alone : (l : List A) (k : ℕ) (v : A) → ((j : ℕ) (u : A) → get_elem? l j ≡ some u → g u ≡ 0 → f u ≡ 0) → get_elem? l k ≡ some v → sum_by g l ≡ g v → sum_by f l ≡ f v
  alone [] k v each at all = absurd (some-ne-none v (sym at))
  alone (x ∷ xs) zero v each at all =
      let one : f x ≡ f v = ap f (some-injective x v at) in
      let two : g x ≡ g v = ap g (some-injective x v at) in
      let none : sum_by g xs ≡ 0 = omega (arith, sum_by-cons g x xs) in
      let rest : sum_by f xs ≡ 0 = none-sum f xs (λ j u there. each (suc j) u there (let part = one_le g xs j u there in omega arith)) in
      omega (arith, sum_by-cons f x xs)
  alone (x ∷ xs) (suc k) v each at all =
      let part = one_le g xs k v at in
      let none : g x ≡ 0 = omega (arith, sum_by-cons g x xs) in
      let here = each 0 x refl none in
      let more : sum_by g xs ≡ g v = omega (arith, sum_by-cons g x xs) in
      omega (arith, sum_by-cons f x xs, alone xs k v (λ j u there. each (suc j) u there) at more)

-- where some pass the test, there is one
pub counted_there : {A : Type 0} (test : A → Bool) (xs : List A) → 0 < count_by test xs → (x : A) × Contains xs x × (test x ≡ true)
counted_there test [] least = absurd (omega arith)
counted_there {A} test (x ∷ xs) least = by (counted_there test xs) (test x) refl
  where
    by : (0 < count_by test xs → (y : A) × Contains xs y × (test y ≡ true)) → (b : Bool) → test x ≡ b → (y : A) × Contains (x ∷ xs) y × (test y ≡ true)
    by rest true passes = (x, contains_first x xs, passes)
    by rest false fails =
        let none : cond {A = ℕ} (test x) 1 0 ≡ 0 = ap (λ b. cond {A = ℕ} b 1 0) fails in
        let there = rest (omega (arith, least, sum_by-cons (λ y. cond {A = ℕ} (test y) 1 0) x xs)) in
        (there.0, contains_rest x xs there.0 there.1, there.2)
