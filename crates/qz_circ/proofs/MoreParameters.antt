-- Gates with parameters below a number have parameters below a greater one, and so circuits within limits.
use Rattle.std.proofs.Common.{◌≡◌, ℕ, ◌≤◌, [], ◌∷◌, sym, subst, arith}
use Rattle.qz_circ.specs.declared.circuit.Expr.TheVariants.{Const, Plus, Minus, Sum}
use Rattle.qz_circ.specs.declared.circuit.Op.{Op}
use Rattle.qz_circ.specs.declared.circuit.Op.TheVariants.{H, X, Cx, Rz}
use Rattle.qz_circ.specs.Bounds.{IsLawful}
use Rattle.qz_circ.specs.Circuit.{Circuit, Limits, Within, IsOn, HasBelow}
use Rattle.qz_circ.proofs.BoundsLemmas.{in_range}
use Rattle.qz_circ.proofs.GateNumbers.{circuit_below}

-- a gate that has only parameters below k has only parameters below more
pub has_with_more : (k more : ℕ) (g : Op) → k ≤ more → HasBelow k g → HasBelow more g
has_with_more k more (H t) h has = tt
has_with_more k more (X t) h has = tt
has_with_more k more (Cx c t) h has = tt
has_with_more k more (Rz t (Const a)) h has = tt
has_with_more k more (Rz t (Plus i)) h has = omega arith
has_with_more k more (Rz t (Minus i)) h has = omega arith
has_with_more k more (Rz t (Sum i j)) h has = (omega (arith, has.0), omega (arith, has.1), has.2)

-- and so for a circuit
pub on_with_more : (q k more : ℕ) (c : Circuit) → k ≤ more → IsOn q k c → IsOn q more c
on_with_more q k more [] h on = tt
on_with_more q k more (g ∷ c) h on = ((on.0.0, has_with_more k more g h on.0.1), on_with_more q k more c h on.1)

-- a circuit within lawful limits is on their qubits and has at most three parameters
pub on_qubits : (b : Limits) → IsLawful b → (q : ℕ) → q ≡ b.q → (c : Circuit) → Within b c → IsOn q 3 c
on_qubits b h q same c w =
    let params = (in_range b h).params in
    subst (λ x. IsOn x 3 c) (sym same) (on_with_more b.q b.m 3 c params (circuit_below b c w.gates))
