-- Equivalent circuits have one fingerprint.
use Rattle.std.proofs.Common.{◌≡◌, ℕ, ◌*◌, ◌%◌, ◌^◌, refl, sym, ◌∙◌, arith}
use Rattle.qz_circ.specs.Circuit.{Circuit}
use Rattle.qz_circ.specs.Exponent.{Exponent}
use Rattle.qz_circ.specs.Paths.{paths, halves}
use Rattle.qz_circ.specs.Equivalence.{Equivalent}
use Rattle.qz_finger.specs.Modulo.{modulus, minus_one, half, parameter_base, inverse_parameter_base}
use Rattle.qz_finger.specs.Weights.{weight, inverse_weight, power_of}
use Rattle.qz_finger.specs.Fingerprint.{Bases, bases_of, inverted, value, value_of, weighed, weighed_values, weighed_inverses, fingerprint}
use Rattle.qz_finger.proofs.Modular.{Same, same_by, same_mul}
use Rattle.qz_finger.proofs.WayValues.{IsValue}
use Rattle.qz_finger.proofs.WeighedSums.{weighed_scaled, inverse_powers, same_products}
use Rattle.qz_finger.proofs.Bases.{AreBases, value_at, is_value, values_inverse}
use Rattle.qz_finger.proofs.Sixteenths.{sixteenths_paths, value_of_sixteenths}

-- one turn, whose power to 16 is 2^6
abbrev pub turn_root : ℕ
turn_root = 3870163035137971766

-- its inverse
abbrev pub inverse_turn_root : ℕ
inverse_turn_root = 7760115154989660995

-- √2, which is 2^24 - 2^72
abbrev pub root_two : ℕ
root_two = 18446742969919734017

-- the bases have inverses
bases_are : (seed q : ℕ) → AreBases modulus (bases_of seed q)
unfolding bases_of
bases_are seed q = record {
  first = inverse_powers modulus parameter_base inverse_parameter_base (power_of seed q 0) refl;
  second = inverse_powers modulus parameter_base inverse_parameter_base (power_of seed q 1) refl;
  third = inverse_powers modulus parameter_base inverse_parameter_base (power_of seed q 2) refl;
}

-- so have the inverse bases
inverted_are : (m : ℕ) (b : Bases) → AreBases m b → AreBases m (inverted b)
inverted_are m b are = record {
  first = same_by m (b.h0 * b.g0) (b.g0 * b.h0) 0 0 (omega arith) ∙ are.first;
  second = same_by m (b.h1 * b.g1) (b.g1 * b.h1) 0 0 (omega arith) ∙ are.second;
  third = same_by m (b.h2 * b.g2) (b.g2 * b.h2) 0 0 (omega arith) ∙ are.third;
}

-- by one turn the values go over products
pub value_is : (seed q : ℕ) → IsValue minus_one root_two (value_at turn_root (bases_of seed q))
value_is seed q = is_value minus_one root_two turn_root (bases_of seed q) (bases_are seed q) refl refl refl

-- and so do the inverse values
pub inverse_is : (seed q : ℕ) → IsValue minus_one root_two (value_at inverse_turn_root (inverted (bases_of seed q)))
inverse_is seed q = is_value minus_one root_two inverse_turn_root (inverted (bases_of seed q)) (inverted_are modulus (bases_of seed q) (bases_are seed q)) refl refl refl

-- ways through a circuit are worth as much by one turn as by 64
value_of_paths : (seed q : ℕ) (c : Circuit) (i j : ℕ) → Same modulus (value_of minus_one (value (bases_of seed q)) (paths q c i j)) (value_of minus_one (value_at turn_root (bases_of seed q)) (paths q c i j))
unfolding bases_of
value_of_paths seed q c i j = value_of_sixteenths minus_one turn_root (bases_of seed q) (paths q c i j) refl (sixteenths_paths q c i j)

-- and so by the inverse bases
inverse_of_paths : (seed q : ℕ) (c : Circuit) (i j : ℕ) → Same modulus (value_of minus_one (value (inverted (bases_of seed q))) (paths q c i j)) (value_of minus_one (value_at inverse_turn_root (inverted (bases_of seed q))) (paths q c i j))
unfolding bases_of
inverse_of_paths seed q c i j = value_of_sixteenths minus_one inverse_turn_root (inverted (bases_of seed q)) (paths q c i j) refl (sixteenths_paths q c i j)

-- weighed sums of ways that are worth the same
weighed_same : (m n : ℕ) (v v' : Exponent → ℕ) (w : ℕ → ℕ → ℕ) (q : ℕ) (c : Circuit) → ((i j : ℕ) → Same m (value_of n v (paths q c i j)) (value_of n v' (paths q c i j))) →
    Same m (weighed n v w (2 ^ q) (paths q c)) (weighed n v' w (2 ^ q) (paths q c))
weighed_same m n v v' w q c each =
    weighed_scaled m 1 n v v' w (2 ^ q) (paths q c) (paths q c) (λ i j hi hj. each i j ∙ same_by m (value_of n v' (paths q c i j)) (1 * value_of n v' (paths q c i j)) 0 0 (omega arith)) ∙
    same_by m (1 * weighed n v' w (2 ^ q) (paths q c)) (weighed n v' w (2 ^ q) (paths q c)) 0 0 (omega arith)

-- the product of both sums, by 16 turns and by one
print_same : (seed q : ℕ) (c : Circuit) →
    fingerprint seed q c ≡ (weighed minus_one (value_at turn_root (bases_of seed q)) (weight seed q) (2 ^ q) (paths q c) * weighed minus_one (value_at inverse_turn_root (inverted (bases_of seed q))) (inverse_weight seed q) (2 ^ q) (paths q c) * half ^ halves c) % modulus
unfolding fingerprint weighed_values weighed_inverses
print_same seed q c =
    let b = bases_of seed q in
    let first = weighed_same modulus minus_one (value b) (value_at turn_root b) (weight seed q) q c (value_of_paths seed q c) in
    let second = weighed_same modulus minus_one (value (inverted b)) (value_at inverse_turn_root (inverted b)) (inverse_weight seed q) q c (inverse_of_paths seed q c) in
    same_mul modulus _ _ (half ^ halves c) (half ^ halves c) (same_mul modulus _ _ _ _ first second) refl

-- equivalent circuits have one fingerprint, for every seed
pub one_fingerprint : (seed q : ℕ) (a c : Circuit) → Equivalent q a c → fingerprint seed q a ≡ fingerprint seed q c
one_fingerprint seed q a c (u, same) =
    let b = bases_of seed q in
    print_same seed q a ∙
    same_products minus_one root_two half (value_at turn_root b) (value_at inverse_turn_root (inverted b)) (value_is seed q) (inverse_is seed q)
    (values_inverse modulus turn_root inverse_turn_root b (bases_are seed q) refl) refl (weight seed q) (inverse_weight seed q) q u a c same ∙
    sym (print_same seed q c)
