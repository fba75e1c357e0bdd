-- Circuits on one qubit that are equivalent since their ways are the same.
use Rattle.std.proofs.Common.{◌≡◌, ℕ, zero, suc, ◌<◌, [], ◌∷◌, refl, sym, ap, ◌∙◌, arith}
use Rattle.qz_circ.specs.declared.circuit.Op.TheVariants.{X}
use Rattle.qz_circ.specs.Equivalence.{scaled_ways, SameUpTo, Equivalent}
use Rattle.qz_circ.specs.Exponent.{zero_exponent}
use Rattle.qz_circ.specs.Paths.{Ways, count, entry, ways_through, identity_ways, ways_along, paths, root2}
use Rattle.qz_circ.proofs.Exponents.{minus-zero}

-- ways that are the same between each two states of one qubit
pub same_ways : (x y : Ways) → x 0 0 ≡ y 0 0 → x 0 1 ≡ y 0 1 → x 1 0 ≡ y 1 0 → x 1 1 ≡ y 1 1 → SameUpTo 1 zero_exponent x y
same_ways x y a b c d = record {
  phase = omega arith;
  counts = λ i j e hi hj he. ap (λ ps. count ps e) (at i j hi hj) ∙ ap (count (y i j)) (sym (minus-zero e he));
}
  where
    at : (i j : ℕ) → i < 2 → j < 2 → x i j ≡ y i j
    at zero zero hi hj = a
    at zero (suc zero) hi hj = b
    at (suc zero) zero hi hj = c
    at (suc zero) (suc zero) hi hj = d
    at (suc (suc i)) j hi hj = absurd (omega arith)
    at i (suc (suc j)) hi hj = absurd (omega arith)

-- two flips are no gate
pub two_flips : Equivalent 1 (X 0 ∷ X 0 ∷ []) []
unfolding scaled_ways root2 paths ways_along ways_through identity_ways entry
two_flips = (zero_exponent, same_ways (scaled_ways 1 (X 0 ∷ X 0 ∷ []) []) (scaled_ways 1 [] (X 0 ∷ X 0 ∷ [])) refl refl refl refl)
