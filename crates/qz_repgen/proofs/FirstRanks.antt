-- Lists of ranks that rounds begin with: none, and that of the empty circuit.
use Rattle.std.proofs.Common.{◌≡◌, ℕ, zero, suc, ◌<◌, [], ◌∷◌, length, sym, ap, ◌∙◌, arith}
use Rattle.std.specs.Prelude.{Contains}
use Rattle.qz_circ.specs.Circuit.{Limits}
use Rattle.qz_circ.specs.Order.{circuit_at}
use Rattle.qz_circ.proofs.CircuitPlaces.{circuit_at-zero}
use Rattle.qz_repgen.specs.Candidate.{AreOfOneLength}
use Rattle.qz_repgen.proofs.RoundSteps.{some_circuit}

pub none_of_one_length : (b : Limits) → AreOfOneLength b []
none_of_one_length b = record {
  listed = λ r has. absurd (omega (arith, has.1));
  short = λ r has. absurd (omega (arith, has.1));
  same = λ r s has. absurd (omega (arith, has.1));
}

-- the only number of the list is 0
is_zero : (r : ℕ) → Contains (0 ∷ []) r → r ≡ 0
is_zero r (zero, inside, is) = sym is
is_zero r (suc k, inside, is) = absurd (omega arith)

pub empty_of_one_length : (b : Limits) → 0 < b.n → AreOfOneLength b (0 ∷ [])
empty_of_one_length b some = record {
  listed = λ r has. omega (arith, is_zero r has, some_circuit b);
  short = λ r has. omega (arith, none r has);
  same = λ r s has_r has_s. none r has_r ∙ sym (none s has_s);
}
  where
    none : (r : ℕ) → Contains (0 ∷ []) r → length (circuit_at b r) ≡ 0
    none r has = ap (λ x. length (circuit_at b x)) (is_zero r has) ∙ ap length (circuit_at-zero b)
