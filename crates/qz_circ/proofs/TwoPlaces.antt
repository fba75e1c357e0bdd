-- What pieces end to end count where at most two of them count anything.
use Rattle.std.proofs.Common.{◌≡◌, ◌≢◌, ◌⊎◌, ◌≤◌, ℕ, zero, suc, ◌+◌, ◌<◌, ◌==◌, List, ◌++◌, inl, inr, sym, ap, ◌∙◌, arith, add-one, zero-add, ltb, lt-ltb, le-ltb}
use Rattle.std.specs.Prelude.{ℤ, pos, ◌+ℤ◌, if◌then◌else◌}
use Rattle.std.specs.List.{flat_map, range_with_len}
use Rattle.std.proofs.lemmas.Int.{ints}
use Rattle.std.proofs.lemmas.Bool.{cases_eq, cases_lt, eq-eqb, ne_eqb}
use Rattle.std.proofs.lemmas.List.{append-nil}
use Rattle.std.proofs.lemmas.List.Concat.{flat_map-append}
use Rattle.qz_circ.specs.Circuit.{below}
use Rattle.qz_circ.specs.Exponent.{Exponent}
use Rattle.qz_circ.specs.Paths.{Path, count}
use Rattle.qz_circ.proofs.CircuitPlaces.{range-append}
use Rattle.qz_circ.proofs.Totals.{count-none, count-append}

-- the pieces of the numbers below one more
pub flat_map-below : {B : Type 0} (f : ℕ → List B) (n : ℕ) → flat_map f (below (suc n)) ≡ flat_map f (below n) ++ f n
flat_map-below f n =
    ap (λ m. flat_map f (below m)) (sym (add-one n)) ∙ ap (flat_map f) (range-append 0 n 1) ∙
    flat_map-append f (below n) (range_with_len (0 + n) 1) ∙
    ap (λ ys. flat_map f (below n) ++ ys) (append-nil (f (0 + n)) ∙ ap f (zero-add n))

-- the value at a place, if the place is below n
abbrev pub once_below : (ℕ → ℤ) → ℕ → ℕ → ℤ
once_below g a n = if ltb a n then g a else pos 0

-- the value at a place, if the place is this one
abbrev once_at : (ℕ → ℤ) → ℕ → ℕ → ℤ
once_at g a n = if a == n then g a else pos 0

-- one number more
once_more : (g : ℕ → ℤ) (a n : ℕ) → once_below g a (suc n) ≡ once_below g a n +ℤ once_at g a n
once_more g a n = by (cases_eq a n) (cases_lt a n)
  where
    by : (a ≡ n) ⊎ (a ≡ n → ⊥) → (a < n) ⊎ (n ≤ a) → once_below g a (suc n) ≡ once_below g a n +ℤ once_at g a n
    by (inl same) either = rw (lt-ltb a (suc n) (omega arith), le-ltb a n (omega arith), eq-eqb a n same) (omega (arith, ints))
    by (inr apart) (inl less) = rw (lt-ltb a (suc n) (omega arith), lt-ltb a n less, ne_eqb a n apart) (omega (arith, ints))
    by (inr apart) (inr more) = rw (le-ltb a (suc n) (omega arith), le-ltb a n more, ne_eqb a n apart) (omega (arith, ints))

-- the value at a number, where all are 0 but at two places
at_two : (g : ℕ → ℤ) (a b n : ℕ) → a ≢ b → ((k : ℕ) → k ≢ a → k ≢ b → g k ≡ pos 0) → g n ≡ once_at g a n +ℤ once_at g b n
at_two g a b n apart others = by (cases_eq a n) (cases_eq b n)
  where
    by : (a ≡ n) ⊎ (a ≡ n → ⊥) → (b ≡ n) ⊎ (b ≡ n → ⊥) → g n ≡ once_at g a n +ℤ once_at g b n
    by (inl h) (inl k) = absurd (apart (h ∙ sym k))
    by (inl h) (inr k) = let here = ap g h in rw (eq-eqb a n h, ne_eqb b n k) (omega (arith, ints))
    by (inr h) (inl k) = let here = ap g k in rw (ne_eqb a n h, eq-eqb b n k) (omega (arith, ints))
    by (inr h) (inr k) = let none = others n (λ s. h (sym s)) (λ s. k (sym s)) in rw (ne_eqb a n h, ne_eqb b n k) (omega (arith, ints))

-- pieces end to end of which all but two count nothing
two_below : (f : ℕ → List Path) (a b n : ℕ) (e : Exponent) → a ≢ b → ((k : ℕ) → k ≢ a → k ≢ b → count (f k) e ≡ pos 0) → count (flat_map f (below n)) e ≡ once_below (λ k. count (f k) e) a n +ℤ once_below (λ k. count (f k) e) b n
two_below f a b zero e apart others = rw (le-ltb a 0 (omega arith), le-ltb b 0 (omega arith)) (count-none e)
two_below f a b (suc n) e apart others =
    let longer = ap (λ ps. count ps e) (flat_map-below f n) ∙ count-append (flat_map f (below n)) (f n) e in
    let before = two_below f a b n e apart others in
    let last = at_two (λ k. count (f k) e) a b n apart others in
    let first = once_more (λ k. count (f k) e) a n in
    let second = once_more (λ k. count (f k) e) b n in
    longer ∙ (λ d. before d +ℤ last d) ∙
    regroup (once_below (λ k. count (f k) e) a n) (once_below (λ k. count (f k) e) b n) (once_at (λ k. count (f k) e) a n) (once_at (λ k. count (f k) e) b n) ∙
    sym (λ d. first d +ℤ second d)
  where
    regroup : (a b c d : ℤ) → (a +ℤ b) +ℤ (c +ℤ d) ≡ (a +ℤ c) +ℤ (b +ℤ d)
    regroup a b c d = omega (arith, ints)

-- the same where both places are below n
pub both_below : (f : ℕ → List Path) (a b n : ℕ) (e : Exponent) → a ≢ b → a < n → b < n → ((k : ℕ) → k ≢ a → k ≢ b → count (f k) e ≡ pos 0) → count (flat_map f (below n)) e ≡ count (f a) e +ℤ count (f b) e
both_below f a b n e apart first second others =
    let whole = two_below f a b n e apart others in
    rw (lt-ltb a n first, lt-ltb b n second) at whole
