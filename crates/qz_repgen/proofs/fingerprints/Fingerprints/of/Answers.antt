use Rattle.std.proofs.Common.{◌≡◌, [], sym, ap, subst, ◌∙◌, arith}
use Rattle.qz_circ.specs.Order.{circuit_at}
use Rattle.qz_circ.proofs.CircuitPlaces.{circuit_at-zero}
use Rattle.qz_finger.specs.Fingerprint.{fingerprint}
use Rattle.qz_shard.specs.Shards.{print_at}
use Rattle.qz_repgen.proofs.fingerprints.Fingerprints.of.Goals as goal

-- the empty circuit
pub returns-then-r-eq0-clause-print : goal.returns-then-r-eq0-clause-print
returns-then-r-eq0-clause-print c =
    let b = c.self.inside.bounds in
    let empty : circuit_at b c.args.r ≡ [] = ap (circuit_at b) (omega arith) ∙ circuit_at-zero b in
    subst (λ f. c.finger.result ≡ print_at f.bounds f.probe.seed c.args.r) c.self.view_is
    (c.finger.ensures ∙ (λ i. fingerprint c.self.inside.probe.seed (c.self.invariant.qubits i) (sym empty i)))
