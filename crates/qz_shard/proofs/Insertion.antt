-- A number that is put into a rising list in its place.
use Rattle.std.proofs.Common.{◌≡◌, ℕ, ◌+◌, ◌-◌, ◌<◌, ◌≤◌, List, ◌∷◌, length, get_or, inl, inr, sym, subst, arith}
use Rattle.std.specs.Prelude.{Contains}
use Rattle.std.specs.List.{insert}
use Rattle.std.specs.List.Sorted.{IsStrictlyIncreasing}
use Rattle.std.proofs.lemmas.Bool.{cases_eq, cases_lt}
use Rattle.std.proofs.lemmas.List.Edits.{length-insert, get_or-insert_below, get_or-insert_at, get_or-insert_above}
use Rattle.std.proofs.lemmas.List.Kept.{AllPairs-from_increasing}
use Rattle.std.proofs.lemmas.List.Sorted.{IsPermutation-insert, IsPermutation-sym, Contains-permutation}
use Rattle.qz_circ.proofs.ClassLaws.{contains_cases, contains_first, contains_rest}
use Rattle.qz_shard.specs.Journals.{AddsMember}

-- a rising list doesn't fall
pub not_falling : (xs : List ℕ) → IsStrictlyIncreasing xs → (i j : ℕ) → i ≤ j → j < length xs → get_or xs i 0 ≤ get_or xs j 0
not_falling xs rising i j upto within = elim (cases_eq i j) [
  | inl same ↦ subst (λ k. get_or xs i 0 ≤ get_or xs k 0) same (omega arith)
  | inr apart ↦ let below : get_or xs i 0 < get_or xs j 0 = AllPairs-from_increasing xs rising i j 0 (omega arith) within in omega arith
]

module _ (r place : ℕ) (xs : List ℕ) (rising : IsStrictlyIncreasing xs) (within : place ≤ length xs) (before : (k : ℕ) → k < place → get_or xs k 0 < r) (after : (k : ℕ) → place ≤ k → k < length xs → r < get_or xs k 0) where
  still_rising : IsStrictlyIncreasing (insert xs place r)
  still_rising k in_range =
      let size = length-insert xs place r within in
      elim (cases_lt (k + 1) place) [
        | inl below ↦
            let here = get_or-insert_below xs place r 0 k (omega arith) within in
            let next = get_or-insert_below xs place r 0 (k + 1) below within in
            let rises = rising k (omega arith) in
            omega (arith, here, next, rises)
        | inr above ↦ elim (cases_eq (k + 1) place) [
          | inl at ↦
              let here = get_or-insert_below xs place r 0 k (omega arith) within in
              let next : get_or (insert xs place r) (k + 1) 0 ≡ r = subst (λ i. get_or (insert xs place r) i 0 ≡ r) (sym at) (get_or-insert_at xs place r 0 within) in
              let less = before k (omega arith) in
              omega (arith, here, next, less)
          | inr past ↦ elim (cases_eq k place) [
            | inl at ↦
                let here : get_or (insert xs place r) k 0 ≡ r = subst (λ i. get_or (insert xs place r) i 0 ≡ r) (sym at) (get_or-insert_at xs place r 0 within) in
                let next = get_or-insert_above xs place r 0 k (omega arith) within in
                let more = after k (omega arith) (omega (arith, size)) in
                omega (arith, here, next, more)
            | inr later ↦
                let one_less : (k - 1) + 1 ≡ k = omega arith in
                let here : get_or (insert xs place r) k 0 ≡ get_or xs (k - 1) 0 = subst (λ i. get_or (insert xs place r) i 0 ≡ get_or xs (k - 1) 0) one_less (get_or-insert_above xs place r 0 (k - 1) (omega arith) within) in
                let next = get_or-insert_above xs place r 0 k (omega arith) within in
                let rises : get_or xs (k - 1) 0 < get_or xs k 0 = AllPairs-from_increasing xs rising (k - 1) k 0 (omega arith) (omega (arith, size)) in
                omega (arith, here, next, rises)
          ]
        ]
      ]

  -- the list has this member more
  pub adds_member : AddsMember r xs (insert xs place r)
  adds_member = record {
    rising = still_rising;
    exactly = λ s. (
      λ has. elim (contains_cases r xs s (Contains-permutation (insert xs place r) (r ∷ xs) s (IsPermutation-sym (r ∷ xs) (insert xs place r) (IsPermutation-insert xs place r)) has)) [
        | inl same ↦ inr (sym same)
        | inr later ↦ inl later
      ],
      λ h. Contains-permutation (r ∷ xs) (insert xs place r) s (IsPermutation-insert xs place r) (elim h [
        | inl old ↦ contains_rest r xs s old
        | inr same ↦ subst (Contains (r ∷ xs)) (sym same) (contains_first r xs)
      ]),
    );
  }
