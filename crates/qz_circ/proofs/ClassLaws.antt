-- A class list is determined by the limits: at most one list is one.
use Rattle.std.proofs.Common.{◌≡◌, ℕ, zero, suc, ◌<◌, List, [], ◌∷◌, length, ◌⊎◌, inl, inr, refl, sym, ap, subst, ◌∙◌, arith}
use Rattle.std.specs.Prelude.{Contains, filter, nat_lt}
use Rattle.std.specs.List.{AllPairs, AllZip}
use Rattle.std.proofs.lemmas.List.Kept.{AllPairs-from_increasing}
use Rattle.qz_circ.specs.Circuit.{Limits}
use Rattle.qz_circ.specs.Classes.{ListsExactly, IsRepresentativeRank, IsMemberRank, IsClassList}

-- each number is below all later ones
abbrev pub Rises : List ℕ → Type 0
Rises xs = AllPairs (λ x y. x < y) xs

-- an element is the first or one of the rest
pub contains_cases : {A : Type 0} (x : A) (xs : List A) (r : A) → Contains (x ∷ xs) r → (x ≡ r) ⊎ Contains xs r
contains_cases x xs r (zero, in_range, same) = inl same
contains_cases x xs r (suc k, in_range, same) = inr (k, omega arith, same)

-- the first element is one
pub contains_first : {A : Type 0} (x : A) (xs : List A) → Contains (x ∷ xs) x
contains_first x xs = (zero, omega arith, refl)

-- an element of the rest is one
pub contains_rest : {A : Type 0} (x : A) (xs : List A) (r : A) → Contains xs r → Contains (x ∷ xs) r
contains_rest x xs r (k, in_range, same) = (suc k, omega arith, same)

-- no element is in the empty list
pub contains_none : {A : Type 0} (x : A) → Contains [] x → ⊥
contains_none x has = omega (arith, has.1)

module _ {A : Type 0} (R : A → A → Type 0) where
  -- the pairs of the rest
  pub pairs_tail : (x : A) (xs : List A) → AllPairs R (x ∷ xs) → AllPairs R xs
  pairs_tail x xs pairs i j d before inside = pairs (suc i) (suc j) d (omega arith) (omega arith)

  -- the first element with another one
  pub pair_first : (x : A) (xs : List A) → AllPairs R (x ∷ xs) → (y : A) → Contains xs y → R x y
  pair_first x xs pairs y (k, inside, is) = subst (R x) is (pairs zero (suc k) y (omega arith) (omega arith))

-- the rest of a rising list rises
pub rises_tail : (x : ℕ) (xs : List ℕ) → Rises (x ∷ xs) → Rises xs
rises_tail = pairs_tail (λ x y. x < y)

-- the first number of a rising list is below the others
pub first_below : (x : ℕ) (xs : List ℕ) → Rises (x ∷ xs) → (r : ℕ) → Contains xs r → x < r
first_below = pair_first (λ x y. x < y)

-- lists that rise by a number of each element, with the same elements, are the same
pub same_by_number : {A : Type 0} (number : A → ℕ) (xs ys : List A) → AllPairs (λ x y. number x < number y) xs → AllPairs (λ x y. number x < number y) ys →
    ((x : A) → Contains xs x → Contains ys x) → ((x : A) → Contains ys x → Contains xs x) → xs ≡ ys
same_by_number number [] [] rx ry to from = refl
same_by_number number [] (y ∷ ys) rx ry to from = absurd (contains_none y (from y (contains_first y ys)))
same_by_number number (x ∷ xs) [] rx ry to from = absurd (contains_none x (to x (contains_first x xs)))
same_by_number {A} number (x ∷ xs) (y ∷ ys) rx ry to from =
    let R : A → A → Type 0 = λ a c. number a < number c in
    let first : x ≡ y = elim (contains_cases y ys x (to x (contains_first x xs))) [
      | inl same ↦ sym same
      | inr later ↦ elim (contains_cases x xs y (from y (contains_first y ys))) [
        | inl same ↦ same
        | inr later' ↦ absurd (omega (arith, pair_first R y ys ry x later, pair_first R x xs rx y later'))
      ]
    ] in
    let to_rest : (z : A) → Contains xs z → Contains ys z = λ z has. elim (contains_cases y ys z (to z (contains_rest x xs z has))) [
      | inl same ↦ absurd (omega (arith, pair_first R x xs rx z has, ap number (first ∙ same)))
      | inr later ↦ later
    ] in
    let from_rest : (z : A) → Contains ys z → Contains xs z = λ z has. elim (contains_cases x xs z (from z (contains_rest y ys z has))) [
      | inl same ↦ absurd (omega (arith, pair_first R y ys ry z has, ap number (sym first ∙ same)))
      | inr later ↦ later
    ] in
    let rest = same_by_number number xs ys (pairs_tail R x xs rx) (pairs_tail R y ys ry) to_rest from_rest in
    λ i. first i ∷ rest i

-- rising lists with the same numbers are the same
pub rising_lists_same : (xs ys : List ℕ) → Rises xs → Rises ys → ((r : ℕ) → Contains xs r → Contains ys r) → ((r : ℕ) → Contains ys r → Contains xs r) → xs ≡ ys
rising_lists_same = same_by_number (λ x. x)

-- at most one list lists exactly the numbers of which a fact holds
pub lists_exactly_same : (P : ℕ → Type 0) (xs ys : List ℕ) → ListsExactly P xs → ListsExactly P ys → xs ≡ ys
lists_exactly_same P xs ys hx hy =
    rising_lists_same xs ys (AllPairs-from_increasing xs hx.rising) (AllPairs-from_increasing ys hy.rising)
    (λ r has. (hy.exactly r).1 ((hx.exactly r).0 has)) (λ r has. (hx.exactly r).1 ((hy.exactly r).0 has))

-- for each number of a list at most one list beside it
lists_same : (P : ℕ → ℕ → Type 0) (rs : List ℕ) (xs ys : List (List ℕ)) → AllZip (λ r list. ListsExactly (P r) list) rs xs → AllZip (λ r list. ListsExactly (P r) list) rs ys → xs ≡ ys
lists_same P [] [] [] hx hy = refl
lists_same P [] (x ∷ xs) ys hx hy = absurd hx
lists_same P [] [] (y ∷ ys) hx hy = absurd hy
lists_same P (r ∷ rs) [] ys hx hy = absurd hx
lists_same P (r ∷ rs) (x ∷ xs) [] hx hy = absurd hy
lists_same P (r ∷ rs) (x ∷ xs) (y ∷ ys) hx hy =
    let first = lists_exactly_same (P r) x y hx.0 hy.0 in
    let rest = lists_same P rs xs ys hx.1 hy.1 in
    λ i. first i ∷ rest i

-- two class lists of the same limits are the same
pub class_list_same : (b : Limits) (k l : List (List ℕ)) → IsClassList b k → IsClassList b l → k ≡ l
class_list_same b k l hk hl =
    let representatives = lists_exactly_same (IsRepresentativeRank b) hk.representatives hl.representatives hk.each_representative hl.each_representative in
    let lists = lists_same (IsMemberRank b) hl.representatives hk.lists hl.lists
    (subst (λ rs. AllZip (λ r list. ListsExactly (IsMemberRank b r) list) rs hk.lists) representatives hk.each_list) hl.each_list in
    hk.several ∙ ap (filter (λ list. nat_lt 1 (length list))) lists ∙ sym hl.several
