-- Rising lists of numbers.
use Rattle.std.proofs.Common.{◌≡◌, ℕ, zero, suc, ◌+◌, ◌<◌, ◌≤◌, List, [], ◌∷◌, length, get_or, slice_get, Some, ap, arith}
use Rattle.std.specs.List.{All}
use Rattle.std.specs.List.Sorted.{IsStrictlyIncreasing}
use Rattle.std.proofs.lemmas.Bool.{cases_lt}
use Rattle.std.proofs.lemmas.List.Kept.{AllPairs-from_increasing}
use Rattle.std.proofs.lemmas.Option.{get_or_from_slice_get, slice_get_within}
use mathlib.Core.Logic.{inl, inr}
use Rattle.qz_seats.specs.SeatRule.{AreDifferent}

at_least : (xs : List ℕ) → IsStrictlyIncreasing xs → (k : ℕ) → k < length xs → k ≤ get_or xs k 0
at_least xs rising zero inside = omega arith
at_least xs rising (suc k) inside =
    let before = at_least xs rising k (omega arith) in
    let step : get_or xs k 0 < get_or xs (k + 1) 0 = rising k (omega arith) in
    let same : get_or xs (k + 1) 0 ≡ get_or xs (suc k) 0 = ap (λ n. get_or xs n 0) (omega arith) in
    omega arith

-- there are at most n of them below n
pub few_rising : (xs : List ℕ) (n : ℕ) → IsStrictlyIncreasing xs → All (λ r. r < n) xs → length xs ≤ n
few_rising [] n rising below = omega arith
few_rising (x ∷ xs) n rising below =
    let last = at_least (x ∷ xs) rising (length xs) (omega arith) in
    let less : get_or (x ∷ xs) (length xs) 0 < n = below (length xs) 0 (omega arith) in
    omega arith

not_before : (xs : List ℕ) → IsStrictlyIncreasing xs → (d e x : ℕ) → slice_get xs d ≡ Some x → slice_get xs e ≡ Some x → d < e → ⊥
not_before xs rising d e x at_d at_e before =
    let less : get_or xs d 0 < get_or xs e 0 = AllPairs-from_increasing xs rising d e 0 before (slice_get_within xs e x at_e) in
    omega (arith, less, get_or_from_slice_get xs d x 0 at_d, get_or_from_slice_get xs e x 0 at_e)

-- no number stands twice
pub rising_differ : (xs : List ℕ) → IsStrictlyIncreasing xs → AreDifferent xs
rising_differ xs rising d e x at_d at_e =
    elim (cases_lt d e) [
      | inl before ↦ absurd (not_before xs rising d e x at_d at_e before)
      | inr other ↦ elim (cases_lt e d) [
        | inl before ↦ absurd (not_before xs rising e d x at_e at_d before)
        | inr both ↦ omega arith
      ]
    ]
