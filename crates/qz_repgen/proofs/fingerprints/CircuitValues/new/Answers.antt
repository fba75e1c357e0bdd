use Rattle.std.proofs.Common.{sym, subst}
use Rattle.qz_circ.specs.Circuit.{Circuit}
use Rattle.qz_circ.proofs.CircuitPlaces.{circuit_at-zero}
use Rattle.qz_finger.specs.Stands.{StandsFor}
use Rattle.qz_repgen.proofs.RoundSteps.{some_circuit}
use Rattle.qz_repgen.proofs.fingerprints.CircuitValues.new.Goals as goal

pub returns : goal.returns
returns c =
    record {
      listed = some_circuit c.args.b;
      stands = subst (λ (x : Circuit). StandsFor c.args.probe.now x c.values.result) (sym (circuit_at-zero c.args.b)) c.values.ensures;
    }
