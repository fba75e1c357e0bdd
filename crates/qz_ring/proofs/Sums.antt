-- What coefficients, weights and powers are over joined lists.
use Rattle.std.proofs.Common.{◌≡◌, ℕ, zero, suc, ◌+◌, ◌<◌, ◌≤◌, max, true, false, [], ◌∷◌, ◌++◌, length, get_or, take, pos, ◌+ℤ◌, refl, ap, ◌∙◌, arith}
use Rattle.std.proofs.lemmas.List.{take_more}
use Rattle.std.specs.Prelude.{unsigned_abs}
use Rattle.std.proofs.lemmas.Int.{ints}
use Rattle.qz_ring.specs.Exponent.{Exponent, plus, same_exponent, reach_of}
use Rattle.qz_ring.specs.Terms.{Term, Terms, part_at, coefficient_at, weight_of, largest_reach, reach_times}
use Rattle.qz_ring.proofs.Numbers.{unsigned_abs-add}

-- the coefficients of joined lists add up
pub coefficient_at-append : (xs ys : Terms) (e : Exponent) → coefficient_at (xs ++ ys) e ≡ coefficient_at xs e +ℤ coefficient_at ys e
coefficient_at-append [] ys e = omega (arith, ints)
coefficient_at-append (x ∷ xs) ys e = omega (arith, ints, coefficient_at-append xs ys e)

-- so do their weights
pub weight_of-append : (xs ys : Terms) → weight_of (xs ++ ys) ≡ weight_of xs + weight_of ys
weight_of-append [] ys = omega arith
weight_of-append (x ∷ xs) ys = omega (arith, weight_of-append xs ys)

-- the largest power of joined lists is the larger of the two
pub largest_reach-append : (xs ys : Terms) → largest_reach (xs ++ ys) ≡ max (largest_reach xs) (largest_reach ys)
largest_reach-append [] ys = omega arith
largest_reach-append (x ∷ xs) ys = omega (arith, largest_reach-append xs ys)

-- a term adds nothing at an exponent that is not its own
pub part_at-other : (t : Term) (e : Exponent) → same_exponent t.exponent e ≡ false → part_at t e ≡ pos 0
part_at-other t e differs = rw differs refl

-- a term adds its coefficient at its own exponent
pub part_at-own : (t : Term) (e : Exponent) → same_exponent t.exponent e ≡ true → part_at t e ≡ t.coefficient
part_at-own t e same = rw same refl

-- each coefficient weighs at most as much as the list
pub coefficient_within : (ts : Terms) (k : ℕ) (t : Term) → k < length ts → t ≡ get_or ts k t → unsigned_abs t.coefficient ≤ weight_of ts
coefficient_within [] k t in_range read = absurd (omega arith)
coefficient_within (x ∷ xs) zero t in_range read = rw read (let le : unsigned_abs x.coefficient ≤ unsigned_abs x.coefficient + weight_of xs = omega arith in le)
coefficient_within (x ∷ xs) (suc k) t in_range read = omega (arith, coefficient_within xs k t (omega arith) read)

-- each term reaches at most as far as the list
pub reach_within : (ts : Terms) (k : ℕ) (t : Term) → k < length ts → t ≡ get_or ts k t → reach_of t.exponent ≤ largest_reach ts
reach_within [] k t in_range read = absurd (omega arith)
reach_within (x ∷ xs) zero t in_range read = rw read (let le : reach_of x.exponent ≤ max (reach_of x.exponent) (largest_reach xs) = omega arith in le)
reach_within (x ∷ xs) (suc k) t in_range read = let rest : reach_of t.exponent ≤ largest_reach xs = reach_within xs k t (omega arith) read in let le : (n r m : ℕ) → n ≤ m → n ≤ max r m = λ n r m h. omega arith in le (reach_of t.exponent) (reach_of x.exponent) (largest_reach xs) rest

-- the weight of one more term
pub weight_of_more : (ts : Terms) (i : ℕ) (t : Term) → i < length ts → t ≡ get_or ts i t → weight_of (take (i + 1) ts) ≡ weight_of (take i ts) + unsigned_abs t.coefficient
weight_of_more ts i t in_range read =
    let more = ap weight_of (take_more ts i t in_range) ∙ weight_of-append (take i ts) (get_or ts i t ∷ []) in
    let same = ap (λ (u : Term). unsigned_abs u.coefficient) read in
    omega (arith, more, same)

-- a front weighs at most as much as the list
pub weight_of-take : (ts : Terms) (i : ℕ) → weight_of (take i ts) ≤ weight_of ts
weight_of-take [] zero = omega arith
weight_of-take [] (suc i) = omega arith
weight_of-take (t ∷ ts) zero = omega arith
weight_of-take (t ∷ ts) (suc i) = omega (arith, weight_of-take ts i)

-- the reach of the products of joined lists is the larger of the two
pub reach_times-append : (by : Exponent) (xs ys : Terms) → reach_times (xs ++ ys) by ≡ max (reach_times xs by) (reach_times ys by)
reach_times-append by [] ys = omega arith
reach_times-append by (x ∷ xs) ys = omega (arith, reach_times-append by xs ys)

-- each product reaches at most as far as all
pub product_within : (ts : Terms) (by : Exponent) (k : ℕ) (t : Term) → k < length ts → t ≡ get_or ts k t → reach_of (plus t.exponent by) ≤ reach_times ts by
product_within [] by k t in_range read = absurd (omega arith)
product_within (x ∷ xs) by zero t in_range read =
    rw read (let le : reach_of (plus x.exponent by) ≤ max (reach_of (plus x.exponent by)) (reach_times xs by) = omega arith in le)
product_within (x ∷ xs) by (suc k) t in_range read =
    let rest : reach_of (plus t.exponent by) ≤ reach_times xs by = product_within xs by k t (omega arith) read in
    let le : (n r m : ℕ) → n ≤ m → n ≤ max r m = λ n r m h. omega arith in
    le (reach_of (plus t.exponent by)) (reach_of (plus x.exponent by)) (reach_times xs by) rest

-- a product reaches at most as far as its factors together
reach_of-plus : (a b : Exponent) → reach_of (plus a b) ≤ reach_of a + reach_of b
reach_of-plus a b = omega (arith, unsigned_abs-add a.x0 b.x0, unsigned_abs-add a.x1 b.x1, unsigned_abs-add a.x2 b.x2)

-- so do all products
pub reach_times_le : (ts : Terms) (by : Exponent) → reach_times ts by ≤ largest_reach ts + reach_of by
reach_times_le [] by = omega arith
reach_times_le (t ∷ ts) by =
    let first = reach_of-plus t.exponent by in
    let rest = reach_times_le ts by in
    larger (reach_of (plus t.exponent by)) (reach_times ts by) (reach_of t.exponent) (largest_reach ts) (reach_of by) first rest
  where
    larger : (a b c d r : ℕ) → a ≤ c + r → b ≤ d + r → max a b ≤ max c d + r
    larger a b c d r first rest = omega arith
