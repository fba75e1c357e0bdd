-- Parts of lists of numbers that rise.
use Rattle.std.proofs.Common.{◌≡◌, ℕ, zero, suc, ◌+◌, ◌-◌, ◌<◌, ◌≤◌, List, ◌++◌, [], ◌∷◌, length, get_or, take, drop, map, ◌⊎◌, inl, inr, refl, sym, ap, ◌∙◌, arith, length-append, length-take, length-drop}
use Rattle.std.specs.Prelude.{Contains}
use Rattle.std.specs.List.Sorted.{IsStrictlyIncreasing}
use Rattle.std.proofs.Math.Nat.{eq-or-lt_of_le}
use Rattle.std.proofs.lemmas.Bool.{cases_lt}
use Rattle.std.proofs.lemmas.List.{get_or-drop, get_or-take, get_or_default, get_or_append_left, get_or-append-add}
use Rattle.std.proofs.lemmas.List.Elements.{Contains-get_or}
use Rattle.std.proofs.lemmas.List.Kept.{AllPairs-from_increasing}
use Rattle.qz_circ.specs.Classes.{ListsExactly}
use Rattle.qz_circ.proofs.ClassLaws.{Rises}

-- numbers that rise do not fall
pub non_falling : (xs : List ℕ) → IsStrictlyIncreasing xs → (i j : ℕ) → i ≤ j → j < length xs → get_or xs i 0 ≤ get_or xs j 0
non_falling xs rising i j order inside = elim (eq-or-lt_of_le order) [
  | inl same ↦ omega (arith, ap (λ k. get_or xs k 0) same)
  | inr before ↦ omega (arith, AllPairs-from_increasing xs rising i j 0 before inside)
]

-- each number of a list that rises is below the next
pub increasing_from_rises : (xs : List ℕ) → Rises xs → IsStrictlyIncreasing xs
increasing_from_rises xs rises k inside = rises k (k + 1) 0 (omega arith) inside

-- two lists that rise, the second above the first, rise end to end
pub rises-append : (xs ys : List ℕ) → Rises xs → Rises ys → ((x y : ℕ) → Contains xs x → Contains ys y → x < y) → Rises (xs ++ ys)
rises-append xs ys rx ry across i j d before inside = by (cases_lt i (length xs)) (cases_lt j (length xs))
  where
    front : (k : ℕ) → k < length xs → get_or (xs ++ ys) k d ≡ get_or xs k d
    front k here = get_or_append_left xs ys d k here

    back : (k : ℕ) → length xs ≤ k → get_or (xs ++ ys) k d ≡ get_or ys (k - length xs) d
    back k there =
        let place : k ≡ length xs + (k - length xs) = omega arith in
        ap (λ n. get_or (xs ++ ys) n d) place ∙ get_or-append-add xs ys (k - length xs) d

    inside_ys : (k : ℕ) → length xs ≤ k → k < length (xs ++ ys) → k - length xs < length ys
    inside_ys k there whole = omega (arith, length-append xs ys)

    by : (i < length xs) ⊎ (length xs ≤ i) → (j < length xs) ⊎ (length xs ≤ j) → get_or (xs ++ ys) i d < get_or (xs ++ ys) j d
    by (inl hi) (inl hj) = omega (arith, front i hi, front j hj, rx i j d before hj)
    by (inl hi) (inr hj) =
        omega (arith, front i hi, back j hj, across (get_or xs i d) (get_or ys (j - length xs) d) (Contains-get_or xs i d hi) (Contains-get_or ys (j - length xs) d (inside_ys j hj inside)))
    by (inr hi) (inl hj) = absurd (omega arith)
    by (inr hi) (inr hj) = omega (arith, back i hi, back j hj, ry (i - length xs) (j - length xs) d (omega arith) (inside_ys j hj inside))

-- a number of a list under a function
pub Contains-from_map : {A B : Type 0} (f : A → B) (xs : List A) (y : B) → Contains (map f xs) y → (x : A) × Contains xs x × (f x ≡ y)
Contains-from_map f [] y has = absurd (omega (arith, has.1))
Contains-from_map {A} f (x ∷ xs) y (zero, inside, is) = (x, (zero, omega arith, refl), is)
Contains-from_map {A} f (x ∷ xs) y (suc k, inside, is) =
    let rest = Contains-from_map f xs y (k, omega arith, is) in
    (rest.0, (suc rest.1.0, omega (arith, rest.1.1), rest.1.2), rest.2)

-- those above low and up to high, from the place of the first to that of the last
pub between : (xs : List ℕ) (low high start end : ℕ) → IsStrictlyIncreasing xs → start ≤ end → end ≤ length xs →
    ((k : ℕ) → k < start → get_or xs k 0 ≤ low) → ((k : ℕ) → start ≤ k → k < length xs → low < get_or xs k 0) →
    ((k : ℕ) → k < end → get_or xs k 0 ≤ high) → ((k : ℕ) → end ≤ k → k < length xs → high < get_or xs k 0) →
    ListsExactly (λ p. Contains xs p × (low < p) × (p ≤ high)) (take (end - start) (drop start xs))
between xs low high start end rising order inside low_front low_back high_front high_back = record {
  rising = increasing_from_rises (take (end - start) (drop start xs)) (λ i j d before within.
      omega (arith, at i d (omega (arith, long)), at j d (omega (arith, long)), AllPairs-from_increasing xs rising (start + i) (start + j) d (omega arith) (omega (arith, long))));
  exactly = λ p. (to p, from p);
}
  where
    long : length (take (end - start) (drop start xs)) ≡ end - start
    long = omega (arith, length-take (end - start) (drop start xs), length-drop start xs)

    at : (k d : ℕ) → k < end - start → get_or (take (end - start) (drop start xs)) k d ≡ get_or xs (start + k) d
    at k d here = get_or-take (end - start) (drop start xs) k d here ∙ get_or-drop start xs k d

    to : (p : ℕ) → Contains (take (end - start) (drop start xs)) p → Contains xs p × (low < p) × (p ≤ high)
    to p (k, here, is) =
        let in_xs : start + k < length xs = omega (arith, long) in
        let same : get_or xs (start + k) p ≡ p = sym (at k p (omega (arith, long))) ∙ is in
        let at_zero : get_or xs (start + k) 0 ≡ p = get_or_default xs (start + k) 0 p in_xs ∙ same in
        ((start + k, in_xs, same), omega (arith, at_zero, low_back (start + k) (omega arith) in_xs), omega (arith, at_zero, high_front (start + k) (omega (arith, long))))

    from : (p : ℕ) → Contains xs p × (low < p) × (p ≤ high) → Contains (take (end - start) (drop start xs)) p
    from p ((k, in_xs, is), above, upto) =
        let at_zero : get_or xs k 0 ≡ p = get_or_default xs k 0 p in_xs ∙ is in
        let after : start ≤ k = elim (cases_lt k start) [ inl before ↦ absurd (omega (arith, low_front k before, at_zero)) | inr later ↦ later ] in
        let below : k < end = elim (cases_lt k end) [ inl before ↦ before | inr later ↦ absurd (omega (arith, high_back k later in_xs, at_zero)) ] in
        let place : start + (k - start) ≡ k = omega arith in
        (k - start, omega (arith, long), at (k - start) p (omega arith) ∙ ap (λ n. get_or xs n p) place ∙ is)

-- what stands before a place of a list that rises is below what stands there
pub taken_below : (xs : List ℕ) (i d : ℕ) → Rises xs → i < length xs → (t : ℕ) → Contains (take i xs) t → t < get_or xs i d
taken_below xs i d rises inside t (k, here, is) =
    let before : k < i = omega (arith, length-take i xs) in
    let at : get_or xs k t ≡ t = sym (get_or-take i xs k t before) ∙ is in
    omega (arith, at, rises k i t before inside, get_or_default xs i d t inside)
