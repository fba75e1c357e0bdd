-- Lists of numbers that are filled from the front, and of numbers below p.
use Rattle.std.proofs.Common.{◌≡◌, ℕ, zero, suc, ◌+◌, ◌*◌, ◌%◌, ◌<◌, ◌≤◌, Bool, List, [], ◌∷◌, length, map, lt-ltb, le-ltb, replicate, ◌⊎◌, inl, inr, refl, add-one, add-zero, add-suc, zero-mul, suc-mul, sym, ap, subst, ◌∙◌, arith}
use Rattle.std.specs.Prelude.{slice_index, slice_set, nat_lt, if◌then◌else◌}
use Rattle.std.specs.List.{range_with_len}
use Rattle.std.proofs.lemmas.Bool.{cases_eq, cases_lt}
use Rattle.std.proofs.lemmas.List.{get_or-set_same, get_or-set_other, get_or-replicate, get_or_past, length-replicate}
use Rattle.std.proofs.lemmas.List.FromFn.{fill_by_all}
use Rattle.qz_finger.specs.Modulo.{modulus, sum_below}
use Rattle.qz_finger.specs.Actions.{AreBelow}

-- one more number is set: what holds below k holds below k + 1
pub filled_more : (P : ℕ → ℕ → Type 0) (xs : List ℕ) (k x : ℕ) → k < length xs → ((m : ℕ) → m < k → P m (slice_index xs m)) → P k x → (m : ℕ) → m < k + 1 → P m (slice_index (slice_set xs k x) m)
filled_more P xs k x less each here m below = by (cases_eq m k)
  where
    by : (m ≡ k) ⊎ (m ≡ k → ⊥) → P m (slice_index (slice_set xs k x) m)
    by (inl same) = subst (λ l. P l (slice_index (slice_set xs k x) l)) (sym same) (subst (P k) (sym (get_or-set_same xs k x 0 less)) here)
    by (inr apart) = subst (P m) (sym (get_or-set_other xs k m x 0 apart)) (each m (omega arith))

-- every number of zeros is 0, and so is what stands behind them
pub zeros_at : (n k : ℕ) → slice_index (replicate n 0) k ≡ 0
zeros_at n k = by (cases_lt k n)
  where
    by : (k < n) ⊎ (n ≤ k) → slice_index (replicate n 0) k ≡ 0
    by (inl less) = get_or-replicate {A = ℕ} n k 0 0 less
    by (inr more) = let zeros : List ℕ = replicate n 0 in let past : length zeros ≤ k = omega (arith, length-replicate {A = ℕ} n 0) in get_or_past zeros k 0 past

-- they are below p
pub zeros_below : (n : ℕ) → AreBelow (replicate n 0)
zeros_below n k = omega (arith, zeros_at n k)

-- one more number below p
below_set : (xs : List ℕ) (k x : ℕ) → k < length xs → AreBelow xs → x < modulus → AreBelow (slice_set xs k x)
below_set xs k x less below here m = by (cases_eq m k)
  where
    by : (m ≡ k) ⊎ (m ≡ k → ⊥) → slice_index (slice_set xs k x) m < modulus
    by (inl same) = subst (λ l. slice_index (slice_set xs k x) l < modulus) (sym same) (subst (λ y. y < modulus) (sym (get_or-set_same xs k x 0 less)) here)
    by (inr apart) = subst (λ y. y < modulus) (sym (get_or-set_other xs k m x 0 apart)) (below m)

-- a list that is filled below a size, and else has zeros
pub padded : (f : ℕ → ℕ) (xs : List ℕ) (size : ℕ) → length xs ≡ 64 → ((m : ℕ) → m < size → slice_index xs m ≡ f m) → ((m : ℕ) → size ≤ m → slice_index xs m ≡ 0) →
    xs ≡ map (λ k. if nat_lt k size then f k else 0) (range_with_len 0 64)
padded f xs size long filled zeros = fill_by_all (λ k. if nat_lt k size then f k else 0) xs 64 0 long each
  where
    each : (m : ℕ) → m < 64 → slice_index xs m ≡ (if nat_lt m size then f m else 0)
    each m below = by (cases_lt m size)
      where
        by : (m < size) ⊎ (size ≤ m) → slice_index xs m ≡ (if nat_lt m size then f m else 0)
        by (inl less) = filled m less ∙ ap (λ (b : Bool). if b then f m else 0) (sym (lt-ltb m size less))
        by (inr more) = zeros m more ∙ ap (λ (b : Bool). if b then f m else 0) (sym (le-ltb m size more))

-- three more at the front
pub three_below : (x y z : ℕ) (xs : List ℕ) → x < modulus → y < modulus → z < modulus → AreBelow xs → AreBelow (x ∷ y ∷ z ∷ xs)
three_below x y z xs first second third rest zero = first
three_below x y z xs first second third rest (suc zero) = second
three_below x y z xs first second third rest (suc (suc zero)) = third
three_below x y z xs first second third rest (suc (suc (suc k))) = rest k

-- none at all
pub none_below : AreBelow []
none_below k = omega arith

-- what holds of 0, 1 and 2
pub three_cases : (P : ℕ → Type 0) → P 0 → P 1 → P 2 → (t : ℕ) → t < 3 → P t
three_cases P first second third zero less = first
three_cases P first second third (suc zero) less = second
three_cases P first second third (suc (suc zero)) less = third
three_cases P first second third (suc (suc (suc t))) less = absurd (omega arith)

-- a remainder is below p
pub rest_below : (x y : ℕ) → x ≡ y % modulus → x < modulus
rest_below x y same = omega arith

-- ---- sums

-- one number more
pub sum_more : (f : ℕ → ℕ) (k : ℕ) → sum_below f (k + 1) ≡ sum_below f k + f k
unfolding sum_below
sum_more f k = ap (sum_below f) (add-one k)

-- numbers below m + n are those below m, and those from m on
pub sum_parts : (f : ℕ → ℕ) (m n : ℕ) → sum_below f (m + n) ≡ sum_below f m + sum_below (λ k. f (m + k)) n
unfolding sum_below
sum_parts f m zero = ap (sum_below f) (add-zero m) ∙ sym (add-zero (sum_below f m))
sum_parts f m (suc n) =
    let last = ap (sum_below f) (add-suc m n) in
    let before = sum_parts f m n in
    omega arith

-- a sum over places is one over rows and columns
pub sum_rows : (f : ℕ → ℕ) (rows columns : ℕ) → sum_below f (rows * columns) ≡ sum_below (λ i. sum_below (λ j. f (i * columns + j)) columns) rows
unfolding sum_below
sum_rows f zero columns = ap (sum_below f) (zero-mul columns)
sum_rows f (suc rows) columns =
    let whole = ap (sum_below f) (suc-mul rows columns) in
    let parts = sum_parts f (rows * columns) columns in
    let before = sum_rows f rows columns in
    omega arith

-- sums of the same numbers
pub sum_same : (f g : ℕ → ℕ) (n : ℕ) → ((k : ℕ) → k < n → f k ≡ g k) → sum_below f n ≡ sum_below g n
unfolding sum_below
sum_same f g zero each = refl
sum_same f g (suc n) each = λ d. sum_same f g n (λ k h. each k (omega arith)) d + each n (omega arith) d
