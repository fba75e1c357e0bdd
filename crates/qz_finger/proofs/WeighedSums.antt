-- Weighed sums of values: ways whose values differ by a factor have weighed sums that differ by it. So the product of two such sums,
-- one of values and one of inverse values, stays for equivalent circuits where each root of two is taken out.
use Rattle.std.proofs.Common.{◌≡◌, ℕ, zero, suc, ◌+◌, ◌*◌, ◌%◌, ◌^◌, ◌<◌, refl, sym, ap, ◌∙◌, arith}
use Rattle.std.proofs.Math.Nat.{pow-suc, pow-zero}
use Rattle.std.proofs.lemmas.Nat.{mul-pow}
use Rattle.qz_circ.specs.Circuit.{Circuit}
use Rattle.qz_circ.specs.Exponent.{Exponent}
use Rattle.qz_circ.specs.Paths.{Ways, paths, root2, halves}
use Rattle.qz_circ.specs.Equivalence.{SameUpTo, scaled_ways}
use Rattle.qz_circ.proofs.ProperWays.{proper_paths}
use Rattle.qz_circ.proofs.Roots.{proper_root2}
use Rattle.qz_finger.specs.Modulo.{sum_below}
use Rattle.qz_finger.specs.Fingerprint.{value_of, weighed}
use Rattle.qz_finger.proofs.Modular.{Same, same_by, same_add, same_mul, same_pow}
use Rattle.qz_finger.proofs.WayValues.{IsValue, value_shifted, value_root2}

-- sums of numbers that are k times others
sum_scaled : (m k : ℕ) (f g : ℕ → ℕ) (size : ℕ) → ((i : ℕ) → i < size → Same m (f i) (k * g i)) → Same m (sum_below f size) (k * sum_below g size)
unfolding sum_below
sum_scaled m k f g zero each = same_by m 0 (k * 0) 0 0 (omega arith)
sum_scaled m k f g (suc size) each =
    same_add m (sum_below f size) (k * sum_below g size) (f size) (k * g size) (sum_scaled m k f g size (λ i h. each i (omega arith))) (each size (omega arith)) ∙
    same_by m (k * sum_below g size + k * g size) (k * (sum_below g size + g size)) 0 0 (omega arith)

-- sums of numbers that are the same
pub sum_congruent : (m : ℕ) (f g : ℕ → ℕ) (size : ℕ) → ((i : ℕ) → i < size → Same m (f i) (g i)) → Same m (sum_below f size) (sum_below g size)
unfolding sum_below
sum_congruent m f g zero each = refl
sum_congruent m f g (suc size) each = same_add m (sum_below f size) (sum_below g size) (f size) (g size) (sum_congruent m f g size (λ i h. each i (omega arith))) (each size (omega arith))

-- weighed sums of ways that are worth k times what others are worth
pub weighed_scaled : (m k n : ℕ) (v v' : Exponent → ℕ) (w : ℕ → ℕ → ℕ) (size : ℕ) (x y : Ways) →
    ((i j : ℕ) → i < size → j < size → Same m (value_of n v (x i j)) (k * value_of n v' (y i j))) → Same m (weighed n v w size x) (k * weighed n v' w size y)
unfolding weighed
weighed_scaled m k n v v' w size x y each =
    sum_scaled m k (λ i. sum_below (λ j. w i j * value_of n v (x i j)) size) (λ i. sum_below (λ j. w i j * value_of n v' (y i j)) size) size
    (λ i hi. sum_scaled m k (λ j. w i j * value_of n v (x i j)) (λ j. w i j * value_of n v' (y i j)) size
    (λ j hj. same_mul m (w i j) (w i j) (value_of n v (x i j)) (k * value_of n v' (y i j)) refl (each i j hi hj) ∙
    same_by m (w i j * (k * value_of n v' (y i j))) (k * (w i j * value_of n v' (y i j))) 0 0 (omega arith)))

-- circuits of which one, times roots, is a monomial times the other
weighed_equivalent : (n r : ℕ) (v : Exponent → ℕ) → IsValue n r v → (w : ℕ → ℕ → ℕ) (q : ℕ) (u : Exponent) (a c : Circuit) → SameUpTo q u (scaled_ways q a c) (scaled_ways q c a) →
    Same (n + 1) (r ^ halves c * weighed n v w (2 ^ q) (paths q a)) (v u * (r ^ halves a * weighed n v w (2 ^ q) (paths q c)))
unfolding scaled_ways
weighed_equivalent n r v is w q u a c same =
    let scaled_a = λ (i j : ℕ). root2 (halves c) (paths q a i j) in
    let scaled_c = λ (i j : ℕ). root2 (halves a) (paths q c i j) in
    let rooted_a = weighed_scaled (n + 1) (r ^ halves c) n v v w (2 ^ q) scaled_a (paths q a) (λ i j hi hj. value_root2 n r v is (halves c) (paths q a i j) (proper_paths q a i j)) in
    let rooted_c = weighed_scaled (n + 1) (r ^ halves a) n v v w (2 ^ q) scaled_c (paths q c) (λ i j hi hj. value_root2 n r v is (halves a) (paths q c i j) (proper_paths q c i j)) in
    let phased = weighed_scaled (n + 1) (v u) n v v w (2 ^ q) scaled_a scaled_c
    (λ i j hi hj. value_shifted n r v is u (scaled_a i j) (scaled_c i j) same.phase (proper_root2 (halves c) (paths q a i j) (proper_paths q a i j)) (proper_root2 (halves a) (paths q c i j) (proper_paths q c i j)) (λ e he. same.counts i j e hi hj he)) in
    sym rooted_a ∙ phased ∙ same_mul (n + 1) (v u) (v u) (weighed n v w (2 ^ q) scaled_c) (r ^ halves a * weighed n v w (2 ^ q) (paths q c)) refl rooted_c

-- ---- the product of both sums

-- a power of 1
pub one-pow : (k : ℕ) → 1 ^ k ≡ 1
one-pow zero = pow-zero 1
one-pow (suc k) = pow-suc 1 k ∙ ap (λ x. x * 1) (one-pow k)

-- powers of inverse numbers
pub inverse_powers : (m g h k : ℕ) → Same m (g * h) 1 → Same m (g ^ k * h ^ k) 1
inverse_powers m g h k inverse = ap (λ x. x % m) (sym (mul-pow g h k)) ∙ same_pow m (g * h) 1 k inverse ∙ ap (λ x. x % m) (one-pow k)

-- a power twice, and that of what takes it out
taken_out : (m r half k : ℕ) → Same m (r * r * half) 1 → Same m (r ^ k * r ^ k * half ^ k) 1
taken_out m r half k inverse = ap (λ x. x * half ^ k % m) (sym (mul-pow r r k)) ∙ inverse_powers m (r * r) half k inverse

-- where the phase and the roots cancel, the products are the same
cancelled : (m a b c d f g f' g' u u' : ℕ) → Same m (a * f) (u * (b * f')) → Same m (a * g) (u' * (b * g')) → Same m (u * u') 1 → Same m (a * a * c) 1 → Same m (b * b * d) 1 →
    Same m (f * g * d) (f' * g' * c)
cancelled m a b c d f g f' g' u u' first second phases roots_a roots_b =
    same_by m (f * g * d) (f * g * d * 1) 0 0 (omega arith) ∙
    sym (same_mul m (f * g * d) (f * g * d) (a * a * c) 1 refl roots_a) ∙
    same_by m (f * g * d * (a * a * c)) (a * f * (a * g) * (c * d)) 0 0 (omega arith) ∙
    same_mul m (a * f * (a * g)) (u * (b * f') * (u' * (b * g'))) (c * d) (c * d) (same_mul m (a * f) (u * (b * f')) (a * g) (u' * (b * g')) first second) refl ∙
    same_by m (u * (b * f') * (u' * (b * g')) * (c * d)) (u * u' * (b * b * d) * (f' * g' * c)) 0 0 (omega arith) ∙
    same_mul m (u * u' * (b * b * d)) (1 * 1) (f' * g' * c) (f' * g' * c) (same_mul m (u * u') 1 (b * b * d) 1 phases roots_b) refl ∙
    same_by m (1 * 1 * (f' * g' * c)) (f' * g' * c) 0 0 (omega arith)

-- the products of weighed sums of values and of inverse values, where half takes out the square of the root
pub same_products : (n r half : ℕ) (v v' : Exponent → ℕ) → IsValue n r v → IsValue n r v' → ((e : Exponent) → Same (n + 1) (v e * v' e) 1) → Same (n + 1) (r * r * half) 1 →
    (w w' : ℕ → ℕ → ℕ) (q : ℕ) (u : Exponent) (a c : Circuit) → SameUpTo q u (scaled_ways q a c) (scaled_ways q c a) →
    Same (n + 1) (weighed n v w (2 ^ q) (paths q a) * weighed n v' w' (2 ^ q) (paths q a) * half ^ halves a) (weighed n v w (2 ^ q) (paths q c) * weighed n v' w' (2 ^ q) (paths q c) * half ^ halves c)
same_products n r half v v' is is' inverse root w w' q u a c same =
    cancelled (n + 1) (r ^ halves c) (r ^ halves a) (half ^ halves c) (half ^ halves a)
    (weighed n v w (2 ^ q) (paths q a)) (weighed n v' w' (2 ^ q) (paths q a)) (weighed n v w (2 ^ q) (paths q c)) (weighed n v' w' (2 ^ q) (paths q c)) (v u) (v' u)
    (weighed_equivalent n r v is w q u a c same) (weighed_equivalent n r v' is' w' q u a c same) (inverse u)
    (taken_out (n + 1) r half (halves c) root) (taken_out (n + 1) r half (halves a) root)
