use Rattle.std.proofs.Common.{sym, ap, subst, ◌∙◌, arith}
use Rattle.qz_circ.specs.Circuit.{Circuit}
use Rattle.qz_circ.specs.Order.{circuit_at}
use Rattle.qz_circ.proofs.CircuitPlaces.{circuit_at-zero}
use Rattle.qz_finger.specs.Stands.{StandsFor}
use Rattle.qz_repgen.proofs.fingerprints.CircuitValues.longer.Goals as goal

-- the empty circuit
pub returns-then-r-eq0-clause-stands : goal.returns-then-r-eq0-clause-stands
returns-then-r-eq0-clause-stands c =
    let empty = ap (circuit_at c.args.b) (omega arith) ∙ circuit_at-zero c.args.b in
    subst (λ (x : Circuit). StandsFor c.args.probe.now x c.values.result) (sym empty) c.values.ensures
