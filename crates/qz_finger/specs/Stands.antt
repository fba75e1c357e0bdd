-- Weighed values of the rows of circuits modulo p, and the circuits that they stand for.
use Rattle.std.specs.Prelude.{◌≡◌, ℕ, ◌*◌, ◌%◌, ◌^◌, ◌<◌, List, slice_index, length}
use Rattle.qz_circ.specs.Circuit.{Circuit}
use Rattle.qz_circ.specs.Exponent.{Exponent}
use Rattle.qz_circ.specs.Paths.{paths, halves}
use Rattle.qz_finger.specs.Modulo.{modulus, minus_one, half, sum_below}
use Rattle.qz_finger.specs.Weights.{place_of, weight, inverse_weight}
use Rattle.qz_finger.specs.Fingerprint.{ProbeParts, bases_of, inverted, value, value_of}
use Rattle.qz_finger.specs.Actions.{AreBelow}

-- weighed values and weighed inverse values, and what is left of 1 where it was halved for each H
pub record ValueLists : Type 0 where
  pub values : List ℕ
  pub inverses : List ℕ
  pub scale : ℕ

-- in the place of rows i and l stand the weights of row i times what the ways to row l are worth, added up over the columns
abbrev pub AreWeighed : ℕ → (Exponent → ℕ) → (ℕ → ℕ → ℕ) → Circuit → (ℕ → ℕ) → Type 0
AreWeighed q v w c f = (i l : ℕ) → i < 2 ^ q → l < 2 ^ q → f (place_of q i l) ≡ sum_below (λ j. w i j * value_of minus_one v (paths q c l j)) (2 ^ q) % modulus

-- the values are those of the circuit, by the weights and the bases of the probe
pub record StandsFor (p : ProbeParts) (c : Circuit) (s : ValueLists) : Type 0 where
  pub values : AreWeighed p.q (value (bases_of p.seed p.q)) (weight p.seed p.q) c (slice_index s.values)
  pub inverses : AreWeighed p.q (value (inverted (bases_of p.seed p.q))) (inverse_weight p.seed p.q) c (slice_index s.inverses)
  pub scale : s.scale ≡ half ^ halves c % modulus

-- what holds of all values: there are 64 of each kind, and all numbers are below p
pub record AreValueLists (s : ValueLists) : Type 0 where
  pub value_size : length s.values ≡ 64
  pub inverse_size : length s.inverses ≡ 64
  pub values : AreBelow s.values
  pub inverses : AreBelow s.inverses
  pub scale : s.scale < modulus
