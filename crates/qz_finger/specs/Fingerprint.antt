-- Fingerprints: numbers that equivalent circuits share. Different circuits may share one, too.
use Rattle.std.specs.Prelude.{ℕ, ◌+◌, ◌*◌, ◌/◌, ◌%◌, ◌^◌, List, [], ◌∷◌}
use Rattle.qz_circ.specs.Circuit.{Circuit}
use Rattle.qz_circ.specs.Exponent.{Exponent}
use Rattle.qz_circ.specs.Paths.{Path, Ways, paths, halves}
use Rattle.qz_finger.specs.Modulo.{modulus, minus_one, half, parameter_base, inverse_parameter_base, root_of_unity, inverse_root_of_unity, residue, raise, sum_below}
use Rattle.qz_finger.specs.Weights.{weight, inverse_weight, power_of}

-- what a contract sees of a probe: the seed of its random numbers, and the number of qubits
pub record ProbeParts : Type 0 where
  pub seed : ℕ
  pub q : ℕ

-- what 16 turns, which are π/16, and the parameters stand for, each with its inverse
pub record Bases : Type 0 where
  pub root : ℕ
  pub inverse_root : ℕ
  pub g0 : ℕ
  pub h0 : ℕ
  pub g1 : ℕ
  pub h1 : ℕ
  pub g2 : ℕ
  pub h2 : ℕ

-- each of them and its inverse exchanged
abbrev pub inverted : Bases → Bases
inverted b = record { root = b.inverse_root; inverse_root = b.root; g0 = b.h0; h0 = b.g0; g1 = b.h1; h1 = b.g1; g2 = b.h2; h2 = b.g2 }

-- 16 turns stand for 2^6, and each parameter for its power of 7
unfoldable pub bases_of : ℕ → ℕ → Bases
bases_of seed q = record {
  root = root_of_unity;
  inverse_root = inverse_root_of_unity;
  g0 = parameter_base ^ power_of seed q 0;
  h0 = inverse_parameter_base ^ power_of seed q 0;
  g1 = parameter_base ^ power_of seed q 1;
  h1 = inverse_parameter_base ^ power_of seed q 1;
  g2 = parameter_base ^ power_of seed q 2;
  h2 = inverse_parameter_base ^ power_of seed q 2;
}

-- the value of a monomial whose turn is a multiple of 16, as in all circuits of rules
abbrev pub value : Bases → Exponent → ℕ
value b e = b.root ^ (e.turn / 16) * raise b.g0 b.h0 e.x0 * raise b.g1 b.h1 e.x1 * raise b.g2 b.h2 e.x2

-- the signed values of the ways, added up, where n stands for -1
unfoldable pub value_of : ℕ → (Exponent → ℕ) → List Path → ℕ
value_of n v [] = 0
value_of n v (p ∷ ps) = residue n p.sign * v p.exponent + value_of n v ps

-- over all rows and columns, the weight times the values of the ways, added up
unfoldable pub weighed : ℕ → (Exponent → ℕ) → (ℕ → ℕ → ℕ) → ℕ → Ways → ℕ
weighed n v w size ways = sum_below (λ i. sum_below (λ j. w i j * value_of n v (ways i j)) size) size

-- the weighed values of a circuit on q qubits
unfoldable pub weighed_values : ℕ → ℕ → Circuit → ℕ
weighed_values seed q c = weighed minus_one (value (bases_of seed q)) (weight seed q) (2 ^ q) (paths q c)

-- its weighed inverse values
unfoldable pub weighed_inverses : ℕ → ℕ → Circuit → ℕ
weighed_inverses seed q c = weighed minus_one (value (inverted (bases_of seed q))) (inverse_weight seed q) (2 ^ q) (paths q c)

-- the fingerprint of a circuit on q qubits: the product of both, halved for each H, below p. A phase multiplies the one by a value
-- and the other by its inverse, and √2 has the same value in both
unfoldable pub fingerprint : ℕ → ℕ → Circuit → ℕ
fingerprint seed q c = (weighed_values seed q c * weighed_inverses seed q c * half ^ halves c) % modulus
