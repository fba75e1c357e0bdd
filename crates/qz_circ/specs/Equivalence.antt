-- When two circuits are equivalent: they are the same unitary up to a monomial, which may hold parameters.
-- Each H owes a factor 1/√2. So that no root divides, each circuit is taken times √2 for each H of the other.
use Rattle.std.specs.Prelude.{◌≡◌, ℕ, ◌^◌, ◌<◌}
use Rattle.qz_circ.specs.Circuit.{Circuit}
use Rattle.qz_circ.specs.Exponent.{Exponent, IsExponent, minus}
use Rattle.qz_circ.specs.Paths.{Ways, paths, count, root2, halves}

-- the ways through the circuit, times √2 for each H of another one
unfoldable pub scaled_ways : ℕ → Circuit → Circuit → Ways
scaled_ways q c other i j = root2 (halves other) (paths q c i j)

-- x is the monomial with exponent u times y: between every two states each exponent has the same count in x
-- as the exponent less u has in y
pub record SameUpTo (q : ℕ) (u : Exponent) (x y : Ways) : Type 0 where
  pub phase : IsExponent u
  pub counts : (i j : ℕ) (e : Exponent) → i < 2 ^ q → j < 2 ^ q → IsExponent e → count (x i j) e ≡ count (y i j) (minus e u)

-- some monomial takes the second circuit on q qubits to the first
abbrev pub Equivalent : ℕ → Circuit → Circuit → Type 0
Equivalent q a c = (u : Exponent) × SameUpTo q u (scaled_ways q a c) (scaled_ways q c a)
