-- Sums of turns: half a circle further, the count has the other sign; so what holds of the turns below it holds of all.
use Rattle.std.proofs.Common.{◌≡◌, ℕ, zero, suc, ◌+◌, ◌-◌, ◌*◌, ◌^◌, ◌%◌, ◌<◌, ◌≤◌, ◌==◌, ◌&&◌, ◌⊎◌, inl, inr, Bool, true, false, List, [], ◌∷◌, ◌++◌, length, get_or, to_z, of_z, refl, sym, ap, subst, ◌∙◌, arith}
use Rattle.std.specs.Prelude.{ℤ, pos, negsuc, neg_ℤ, ◌-ℤ◌, unsigned_abs, nat_lt, if◌then◌else◌}
use Rattle.std.proofs.Math.Nat.{pow-suc, pow-le-pow_right}
use Rattle.std.specs.Int.{w128}
use Rattle.std.proofs.lemmas.Int.{ints, to_z-of_z, fits_signed_from_abs}
use Rattle.std.proofs.lemmas.Bool.{cases_eq, cases_lt}
use Rattle.std.proofs.lemmas.Bool.Decides.{nat_tests}
use Rattle.std.proofs.lemmas.List.{get_or_past, get_or_push}
use Rattle.std.proofs.Math.ListN.{get_or-append}
use borrow.Author.Count.{below_more}
use Rattle.qz_circ.specs.Exponent.{zero_exponent, turn_of, same_exponent, with_turns}
use Rattle.qz_circ.specs.Paths.{Path, count, root2}
use Rattle.qz_circ.proofs.SignedWays.{AreProper}
use Rattle.qz_circ.proofs.PathCounts.{count_of_one, count-identity_ways}
use Rattle.qz_circ.specs.Paths.{identity_ways}
use Rattle.qz_circ.proofs.Totals.{count-root2_once}
use Rattle.qz_circ.proofs.Roots.{proper_root2}
use Rattle.qz_check.specs.Sums.{TurnedSum, counted, counted_behind, amount, AreAtMost, IsSmall, combine, IsCombined, one_if, IsNumber, IsTurnedSum}
use Rattle.qz_check.proofs.OneTurn.{turns_less}

-- ---- single counts

-- below half a circle
low : (cs : List ℤ) (n : ℕ) → n < 256 → counted cs n ≡ get_or cs n (pos 0)
low cs n less = let test : nat_lt n 256 ≡ true = grind (arith, nat_tests) in rw test refl

-- and from there on
high : (cs : List ℤ) (n : ℕ) → 256 ≤ n → counted cs n ≡ neg_ℤ (get_or cs (n - 256) (pos 0))
high cs n more = let test : nat_lt n 256 ≡ false = grind (arith, nat_tests) in rw test refl

-- the other sign, twice
neg_twice : (z : ℤ) → neg_ℤ (neg_ℤ z) ≡ z
neg_twice z = omega (arith, ints)

-- half a circle further
pub opposite : (cs : List ℤ) (by n : ℕ) → counted_behind cs by (n + 256) ≡ neg_ℤ (counted_behind cs by n)
opposite cs by n = split (cases_lt ((n + (512 - by)) % 512) 256)
  where
    split : ((n + (512 - by)) % 512 < 256) ⊎ (256 ≤ (n + (512 - by)) % 512) → counted_behind cs by (n + 256) ≡ neg_ℤ (counted_behind cs by n)
    split (inl less) =
        let there : ((n + 256) + (512 - by)) % 512 ≡ (n + (512 - by)) % 512 + 256 = omega arith in
        let back : (n + (512 - by)) % 512 + 256 - 256 ≡ (n + (512 - by)) % 512 = omega arith in
        ap (counted cs) there ∙ high cs ((n + (512 - by)) % 512 + 256) (omega arith) ∙ ap (λ k. neg_ℤ (get_or cs k (pos 0))) back ∙ sym (ap neg_ℤ (low cs ((n + (512 - by)) % 512) less))
    split (inr more) =
        let there : ((n + 256) + (512 - by)) % 512 ≡ (n + (512 - by)) % 512 - 256 = omega arith in
        ap (counted cs) there ∙ low cs ((n + (512 - by)) % 512 - 256) (omega arith) ∙ sym (neg_twice (get_or cs ((n + (512 - by)) % 512 - 256) (pos 0))) ∙ sym (ap neg_ℤ (high cs ((n + (512 - by)) % 512) more))

-- whole circles more
circle : (cs : List ℤ) (by n m : ℕ) → n % 512 ≡ m % 512 → counted_behind cs by n ≡ counted_behind cs by m
circle cs by n m same = let turns : (n + (512 - by)) % 512 ≡ (m + (512 - by)) % 512 = omega arith in ap (counted cs) turns

-- the absolute value of the other sign
abs_neg : (z : ℤ) → unsigned_abs (neg_ℤ z) ≡ unsigned_abs z
abs_neg (pos zero) = refl
abs_neg (pos (suc n)) = refl
abs_neg (negsuc n) = refl

-- small counts are small at each turn
pub counted_small : (most : ℕ) (cs : List ℤ) (n : ℕ) → AreAtMost most cs → unsigned_abs (counted cs n) ≤ most
counted_small most cs n small = by (nat_lt n 256)
  where
    by : (b : Bool) → unsigned_abs (if b then get_or cs n (pos 0) else neg_ℤ (get_or cs (n - 256) (pos 0))) ≤ most
    by true = small n
    by false = omega (arith, abs_neg (get_or cs (n - 256) (pos 0)), small (n - 256))

-- ---- what holds below half a circle holds of all turns

-- two that agree there up to a shift
agree : (xs ys : List ℤ) (x y by : ℕ) → ((m : ℕ) → m < 256 → counted_behind xs x m ≡ counted_behind ys y (m + by)) → (n : ℕ) → counted_behind xs x n ≡ counted_behind ys y (n + by)
agree xs ys x y by h n = split (cases_lt (n % 512) 256)
  where
    split : (n % 512 < 256) ⊎ (256 ≤ n % 512) → counted_behind xs x n ≡ counted_behind ys y (n + by)
    split (inl less) = circle xs x n (n % 512) (omega arith) ∙ h (n % 512) less ∙ circle ys y (n % 512 + by) (n + by) (omega arith)
    split (inr more) =
        let m = n % 512 - 256 in
        circle xs x n (m + 256) (omega arith) ∙ opposite xs x m ∙ ap neg_ℤ (h m (omega arith)) ∙ sym (opposite ys y (m + by)) ∙ circle ys y ((m + by) + 256) (n + by) (omega arith)

-- the same of sums
pub turned_all : (x y : TurnedSum) (by : ℕ) → ((m : ℕ) → m < 256 → amount x m ≡ amount y (m + (512 - by))) → (n : ℕ) → amount x n ≡ amount y (n + (512 - by))
unfolding amount
turned_all x y by h = agree x.counts y.counts x.turn y.turn (512 - by) h

-- ---- sums and differences

-- the sum of both with the other sign
combine_neg : (negated : Bool) (x y : ℤ) → neg_ℤ (combine negated x y) ≡ combine negated (neg_ℤ x) (neg_ℤ y)
combine_neg true x y = omega (arith, ints)
combine_neg false x y = omega (arith, ints)

-- its absolute value
combine_small : (negated : Bool) (x y : ℤ) (most : ℕ) → unsigned_abs x ≤ most → unsigned_abs y ≤ most → unsigned_abs (combine negated x y) ≤ 2 * most
combine_small true x y most h k = grind (arith, ints)
combine_small false x y most h k = grind (arith, ints)

-- where it holds below half a circle it does of all
pub combined_all : (negated : Bool) (left : List ℤ) (lt : ℕ) (right : List ℤ) (rt : ℕ) (new : List ℤ) → length new ≡ 256 →
    ((m : ℕ) → m < 256 → get_or new m (pos 0) ≡ combine negated (counted_behind left lt m) (counted_behind right rt m)) → IsCombined negated left lt right rt new
combined_all negated left lt right rt new size each = record { size = size; counts = λ n. split n (cases_lt (n % 512) 256); small = λ h sl sr k. bound h sl sr k (cases_lt k 256) }
  where
    split : (n : ℕ) → (n % 512 < 256) ⊎ (256 ≤ n % 512) → counted_behind new 0 n ≡ combine negated (counted_behind left lt n) (counted_behind right rt n)
    split n (inl less) =
        let here : (n + (512 - 0)) % 512 ≡ n % 512 = omega arith in
        let first = circle left lt (n % 512) n (omega arith) in
        let second = circle right rt (n % 512) n (omega arith) in
        ap (counted new) here ∙ low new (n % 512) less ∙ each (n % 512) less ∙ (λ d. combine negated (first d) (second d))
    split n (inr more) =
        let m = n % 512 - 256 in
        let here : (n + (512 - 0)) % 512 ≡ n % 512 = omega arith in
        let first = sym (opposite left lt m) ∙ circle left lt (m + 256) n (omega arith) in
        let second = sym (opposite right rt m) ∙ circle right rt (m + 256) n (omega arith) in
        ap (counted new) here ∙ high new (n % 512) more ∙ ap neg_ℤ (each m (omega arith)) ∙ combine_neg negated (counted_behind left lt m) (counted_behind right rt m) ∙ (λ d. combine negated (first d) (second d))

    bound : (h : ℕ) → AreAtMost (2 ^ h) left → AreAtMost (2 ^ h) right → (k : ℕ) → (k < 256) ⊎ (256 ≤ k) → unsigned_abs (get_or new k (pos 0)) ≤ 2 ^ (h + 1)
    bound h sl sr k (inl less) =
        let value = combine_small negated (counted_behind left lt k) (counted_behind right rt k) (2 ^ h) (counted_small (2 ^ h) left ((k + (512 - lt)) % 512) sl) (counted_small (2 ^ h) right ((k + (512 - rt)) % 512) sr) in
        let same = ap unsigned_abs (each k less) in
        let more : h + 1 ≡ suc h = omega arith in
        let power : 2 ^ (h + 1) ≡ 2 ^ h * 2 = ap (λ n. 2 ^ n) more ∙ pow-suc 2 h in
        omega (arith, value, same, power)
    bound h sl sr k (inr more) = let none = ap unsigned_abs (get_or_past new k (pos 0) (omega arith)) in omega (arith, none)

-- one count more
pub combined_more : (f : ℕ → ℤ) (cs new : List ℤ) (z : ℤ) (k : ℕ) → length cs ≡ k → new ≡ cs ++ z ∷ [] → z ≡ f k → ((m : ℕ) → m < k → get_or cs m (pos 0) ≡ f m) → (m : ℕ) → m < k + 1 → get_or new m (pos 0) ≡ f m
combined_more f cs new z k len is here before =
    below_more (λ m. get_or new m (pos 0) ≡ f m) k
    (λ m less. ap (λ xs. get_or xs m (pos 0)) is ∙ get_or-append cs (z ∷ []) (pos 0) m (omega arith) ∙ before m less)
    (ap (λ xs. get_or xs k (pos 0)) is ∙ get_or_push cs z (pos 0) k len ∙ here)

-- ---- numbers

-- counts that are those of a number below half a circle
pub number_all : (z : ℤ) (cs : List ℤ) → length cs ≡ 256 → ((m : ℕ) → m < 256 → get_or cs m (pos 0) ≡ (if m == 0 then z else pos 0)) → IsNumber z cs
number_all z cs size each = record {
  size = size;
  first = each 0 (omega arith);
  others = λ k some. by k some (cases_lt k 256);
}
  where
    by : (k : ℕ) → 0 < k → (k < 256) ⊎ (256 ≤ k) → get_or cs k (pos 0) ≡ pos 0
    by k some (inl less) = let test : (k == 0) ≡ false = grind (arith, nat_tests) in each k less ∙ (λ d. if test d then z else pos 0)
    by k some (inr more) = get_or_past cs k (pos 0) (omega arith)

-- what a number counts at a turn
number_at : (z : ℤ) (cs : List ℤ) (r : ℕ) → IsNumber z cs → r < 512 → counted cs r ≡ (if r == 0 then z else (if r == 256 then neg_ℤ z else pos 0))
number_at z cs r is below = by (cases_eq r 0) (cases_eq r 256)
  where
    by : (r ≡ 0) ⊎ (r ≡ 0 → ⊥) → (r ≡ 256) ⊎ (r ≡ 256 → ⊥) → counted cs r ≡ (if r == 0 then z else (if r == 256 then neg_ℤ z else pos 0))
    by (inl same) either = subst (λ n. counted cs n ≡ (if n == 0 then z else (if n == 256 then neg_ℤ z else pos 0))) (sym same) is.first
    by (inr one) (inl same) = subst (λ n. counted cs n ≡ (if n == 0 then z else (if n == 256 then neg_ℤ z else pos 0))) (sym same) (ap neg_ℤ is.first)
    by (inr one) (inr two) =
        let first : (r == 0) ≡ false = grind (arith, nat_tests) in
        let second : (r == 256) ≡ false = grind (arith, nat_tests) in
        none (cases_lt r 256) ∙ sym (λ d. if first d then z else (if second d then neg_ℤ z else pos 0))
      where
        none : (r < 256) ⊎ (256 ≤ r) → counted cs r ≡ pos 0
        none (inl less) = low cs r less ∙ is.others r (omega arith)
        none (inr more) = high cs r more ∙ ap neg_ℤ (is.others (r - 256) (omega arith))

-- the number 0 counts nothing
pub zero_amount : (cs : List ℤ) → IsNumber (pos 0) cs → (n : ℕ) → amount (record { turn = 0; counts = cs }) n ≡ pos 0
unfolding amount
zero_amount cs is n = number_at (pos 0) cs ((n + (512 - 0)) % 512) is (omega arith) ∙ by ((n + (512 - 0)) % 512 == 0) ((n + (512 - 0)) % 512 == 256)
  where
    by : (b c : Bool) → (if b then pos 0 else (if c then neg_ℤ (pos 0) else pos 0)) ≡ pos 0
    by true c = refl
    by false true = refl
    by false false = refl

-- the exponent of 1 and another turn
one_test : (r : ℕ) → same_exponent zero_exponent (turn_of r) ≡ (0 == r % 512)
one_test r = by (0 == r % 512)
  where
    by : (b : Bool) → (((b && true) && true) && true) ≡ b
    by true = refl
    by false = refl

-- what the number 1 counts, as ways
one_count : (r : ℕ) → r < 512 → count_of_one (turn_of r) ≡ (if r == 0 then pos 1 else (if r == 256 then negsuc 0 else pos 0))
one_count r below = by (cases_eq r 0) (cases_eq r 256)
  where
    tests : (b c : Bool) → same_exponent zero_exponent (turn_of r) ≡ b → same_exponent zero_exponent (with_turns (turn_of r) 256) ≡ c → count_of_one (turn_of r) ≡ (if b then pos 1 else pos 0) -ℤ (if c then pos 1 else pos 0)
    tests b c h k = λ d. (if h d then pos 1 else pos 0) -ℤ (if k d then pos 1 else pos 0)

    by : (r ≡ 0) ⊎ (r ≡ 0 → ⊥) → (r ≡ 256) ⊎ (r ≡ 256 → ⊥) → count_of_one (turn_of r) ≡ (if r == 0 then pos 1 else (if r == 256 then negsuc 0 else pos 0))
    by (inl same) either = subst (λ n. count_of_one (turn_of n) ≡ (if n == 0 then pos 1 else (if n == 256 then negsuc 0 else pos 0))) (sym same) refl
    by (inr one) (inl same) = subst (λ n. count_of_one (turn_of n) ≡ (if n == 0 then pos 1 else (if n == 256 then negsuc 0 else pos 0))) (sym same) refl
    by (inr one) (inr two) =
        let first : (r == 0) ≡ false = grind (arith, nat_tests) in
        let second : (r == 256) ≡ false = grind (arith, nat_tests) in
        let third : (0 == r % 512) ≡ false = grind (arith, nat_tests) in
        let fourth : (0 == (r + 256) % 512) ≡ false = grind (arith, nat_tests) in
        let same : with_turns (turn_of r) 256 ≡ turn_of (r + 256) = let turns : (r % 512 + 256) % 512 ≡ (r + 256) % 512 = omega arith in (λ d. record { turn = turns d; x0 = pos 0; x1 = pos 0; x2 = pos 0 }) in
        tests false false (one_test r ∙ third) (ap (same_exponent zero_exponent) same ∙ one_test (r + 256) ∙ fourth) ∙ sym (λ d. if first d then pos 1 else (if second d then negsuc 0 else pos 0))

-- the number 1 counts what the one way does
pub one_amount : (cs : List ℤ) → IsNumber (pos 1) cs → (n : ℕ) → amount (record { turn = 0; counts = cs }) n ≡ count (one_if true) (turn_of n)
unfolding amount identity_ways
one_amount cs is n =
    let r = n % 512 in
    let here : (n + (512 - 0)) % 512 ≡ r = omega arith in
    let turns : turn_of r ≡ turn_of n = let same : n % 512 % 512 ≡ n % 512 = omega arith in (λ d. record { turn = same d; x0 = pos 0; x1 = pos 0; x2 = pos 0 }) in
    ap (counted cs) here ∙ number_at (pos 1) cs r is (omega arith) ∙ sym (one_count r (omega arith)) ∙ ap count_of_one turns ∙ sym (count-identity_ways 0 0 (turn_of n))

-- both are small
pub number_small : (z : ℤ) (cs : List ℤ) → IsNumber z cs → unsigned_abs z ≤ 1 → AreAtMost 1 cs
number_small z cs is small k = by (cases_eq k 0)
  where
    by : (k ≡ 0) ⊎ (k ≡ 0 → ⊥) → unsigned_abs (get_or cs k (pos 0)) ≤ 1
    by (inl same) = omega (arith, ap (λ n. unsigned_abs (get_or cs n (pos 0))) same, ap unsigned_abs is.first, small)
    by (inr other) = omega (arith, ap unsigned_abs (is.others k (omega arith)))

-- ---- √2

-- √2 once more
pub root_more : (k : ℕ) (w : List Path) (old new : TurnedSum) (m : ℕ) → m ≡ k + 1 → AreProper w → ((n : ℕ) → amount old n ≡ count (root2 k w) (turn_of n)) →
    ((n : ℕ) → amount new n ≡ amount old (n + (512 - 64)) -ℤ amount old (n + (512 - 192))) → (n : ℕ) → amount new n ≡ count (root2 m w) (turn_of n)
unfolding root2
root_more k w old new m next proper before step n =
    let number : suc k ≡ m = omega arith in
    let low = before (n + (512 - 64)) ∙ ap (count (root2 k w)) (sym (turns_less n 64 (omega arith))) in
    let high = before (n + (512 - 192)) ∙ ap (count (root2 k w)) (sym (turns_less n 192 (omega arith))) in
    step n ∙ (λ d. low d -ℤ high d) ∙ sym (count-root2_once (root2 k w) (turn_of n) (proper_root2 k w proper) (omega arith)) ∙ ap (λ h. count (root2 h w) (turn_of n)) number

-- ---- turns

-- the turn to be made is turned on
pub rotated : (cs : List ℤ) (turn by more : ℕ) → turn < 512 → by < 512 → more ≡ (turn + by) % 512 → (n : ℕ) → counted_behind cs more n ≡ counted_behind cs turn (n + (512 - by))
rotated cs turn by more less by_less is n = let turns : (n + (512 - more)) % 512 ≡ ((n + (512 - by)) + (512 - turn)) % 512 = omega arith in ap (counted cs) turns

-- √2 not at all
pub root_first : (x : TurnedSum) → ((n : ℕ) → amount x n ≡ count (one_if true) (turn_of n)) → (n : ℕ) → amount x n ≡ count (root2 0 (one_if true)) (turn_of n)
unfolding root2
root_first x is n = is n

-- a sum that is small leaves room
pub root_room : (k : ℕ) (x : TurnedSum) → k ≤ 119 → IsSmall k x → IsSmall 119 x
unfolding IsSmall
root_room k x less small m = let power : 2 ^ k ≤ 2 ^ 119 = pow-le-pow_right {n = 2} (omega arith) less in omega (arith, small m, power)

-- ---- what holds of every sum

-- the counts of a small sum
pub small_of : (h turn : ℕ) (cs : List ℤ) (x : TurnedSum) → record { turn = turn; counts = cs } ≡ x → IsSmall h x → AreAtMost (2 ^ h) cs
unfolding IsSmall
small_of h turn cs x is small k = omega (arith, ap (λ (y : TurnedSum). unsigned_abs (get_or y.counts k (pos 0))) is, small k)

-- a sum or a difference of two is one
pub combined_sum : (negated : Bool) (left : List ℤ) (lt : ℕ) (right : List ℤ) (rt : ℕ) (new : List ℤ) → IsCombined negated left lt right rt new → AreAtMost (2 ^ 119) left → AreAtMost (2 ^ 119) right → IsTurnedSum (record { turn = 0; counts = new })
combined_sum negated left lt right rt new is sl sr = record { turn = omega arith; size = is.size; small = is.small 119 sl sr }

-- and so is a number
pub number_sum : (z : ℤ) (cs : List ℤ) → IsNumber z cs → unsigned_abs z ≤ 1 → IsTurnedSum (record { turn = 0; counts = cs })
number_sum z cs is small = record { turn = omega arith; size = is.size; small = λ k. omega (arith, number_small z cs is small k) }

-- ---- what the code reads and writes

-- a number that fits its type is what was written
pub written : (z : ℤ) → unsigned_abs z ≤ 2 ^ 122 → to_z w128 (of_z w128 z) ≡ z
written z small = to_z-of_z w128 z (fits_signed_from_abs w128 z (omega (arith, small)))

-- the sum of two counts, as it is written
pub combined_written : (negated : Bool) (left : List ℤ) (lt : ℕ) (right : List ℤ) (rt n : ℕ) (x y z : ℤ) → AreAtMost (2 ^ 120) left → AreAtMost (2 ^ 120) right → x ≡ counted_behind left lt n → y ≡ counted_behind right rt n →
    z ≡ combine negated (to_z w128 (of_z w128 x)) (to_z w128 (of_z w128 y)) → to_z w128 (of_z w128 z) ≡ combine negated (counted_behind left lt n) (counted_behind right rt n)
combined_written negated left lt right rt n x y z sl sr x_is y_is z_is =
    let small_x = counted_small (2 ^ 120) left ((n + (512 - lt)) % 512) sl in
    let small_y = counted_small (2 ^ 120) right ((n + (512 - rt)) % 512) sr in
    let abs_x = ap unsigned_abs x_is in
    let abs_y = ap unsigned_abs y_is in
    let first = written x (omega (arith, abs_x, small_x)) ∙ x_is in
    let second = written y (omega (arith, abs_y, small_y)) ∙ y_is in
    let value : z ≡ combine negated (counted_behind left lt n) (counted_behind right rt n) = z_is ∙ (λ d. combine negated (first d) (second d)) in
    let abs_z = ap unsigned_abs value in
    let small_z = combine_small negated (counted_behind left lt n) (counted_behind right rt n) (2 ^ 120) small_x small_y in
    written z (omega (arith, abs_z, small_z)) ∙ value

-- the count in a number, as it is written
pub number_written : (is_one : Bool) (n : ℕ) (z : ℤ) → z ≡ (if n == 0 then (if is_one then pos 1 else pos 0) else pos 0) → to_z w128 (of_z w128 z) ≡ (if n == 0 then (if is_one then pos 1 else pos 0) else pos 0)
number_written is_one n z is = written z (let abs = ap unsigned_abs is in omega (arith, abs, small (n == 0) is_one)) ∙ is
  where
    small : (b c : Bool) → unsigned_abs (if b then (if c then pos 1 else pos 0) else pos 0) ≤ 1
    small true true = omega arith
    small true false = omega arith
    small false c = omega arith

-- the counts of a small sum, as they are read
pub small_read : (h turn : ℕ) (ds cs : List ℤ) (x : TurnedSum) → ds ≡ cs → record { turn = turn; counts = cs } ≡ x → IsSmall h x → AreAtMost (2 ^ h) ds
small_read h turn ds cs x read is small = subst (AreAtMost (2 ^ h)) (sym read) (small_of h turn cs x is small)

-- the counts of √2 times a sum
pub root_amounts : (ds es cs new : List ℤ) (turn : ℕ) (x : TurnedSum) → turn < 512 → ds ≡ cs → es ≡ cs → record { turn = turn; counts = cs } ≡ x →
    IsCombined true ds ((turn + 64) % 512) es ((turn + 192) % 512) new → (n : ℕ) → amount (record { turn = 0; counts = new }) n ≡ amount x (n + (512 - 64)) -ℤ amount x (n + (512 - 192))
unfolding amount
root_amounts ds es cs new turn x less first second is combined n =
    let at_first = rotated ds turn 64 ((turn + 64) % 512) less (omega arith) refl n ∙ ap (λ xs. counted_behind xs turn (n + (512 - 64))) first in
    let at_second = rotated es turn 192 ((turn + 192) % 512) less (omega arith) refl n ∙ ap (λ xs. counted_behind xs turn (n + (512 - 192))) second in
    combined.counts n ∙ (λ d. at_first d -ℤ at_second d) ∙ (λ d. amount (is d) (n + (512 - 64)) -ℤ amount (is d) (n + (512 - 192)))

-- the counts of a sum or a difference
pub combined_amounts : (negated : Bool) (ds es cs bs new : List ℤ) (t u : ℕ) (x y : TurnedSum) → ds ≡ cs → es ≡ bs → record { turn = t; counts = cs } ≡ x → record { turn = u; counts = bs } ≡ y →
    IsCombined negated ds t es u new → (n : ℕ) → amount (record { turn = 0; counts = new }) n ≡ combine negated (amount x n) (amount y n)
unfolding amount
combined_amounts negated ds es cs bs new t u x y first second x_is y_is combined n =
    combined.counts n ∙ (λ d. combine negated (counted_behind (first d) t n) (counted_behind (second d) u n)) ∙ (λ d. combine negated (amount (x_is d) n) (amount (y_is d) n))

-- they are small
pub combined_smalls : (negated : Bool) (ds es new : List ℤ) (lt rt turn : ℕ) → IsCombined negated ds lt es rt new → (h : ℕ) → AreAtMost (2 ^ h) ds → AreAtMost (2 ^ h) es → IsSmall (h + 1) (record { turn = turn; counts = new })
unfolding IsSmall
combined_smalls negated ds es new lt rt turn is h first second = is.small h first second
