use Rattle.std.proofs.Common.{[], subst}
use Rattle.qz_finger.specs.Fingerprint.{ProbeParts}
use Rattle.qz_finger.specs.Stands.{ValueLists, StandsFor}
use Rattle.qz_finger.proofs.PlaceLemmas.{few_entries}
use Rattle.qz_finger.proofs.ProbeTables.{value_weights, inverse_weights}
use Rattle.qz_finger.proofs.StandsLemmas.{weights_lists, stands_none}
use Rattle.qz_finger.proofs.probe.Probe.empty.Goals as goal

pub returns : goal.returns
returns c =
    let seed = c.self.inside.seed in
    let q = c.self.inside.q in
    let p : ProbeParts = record { seed = seed; q = q } in
    let xs = c.self.inside.values.weights in
    let ys = c.self.inside.inverses.weights in
    let made : ValueLists = record { values = xs; inverses = ys; scale = 1 } in
    subst (λ (x : ProbeParts). StandsFor x [] made) c.self.view_is
    (stands_none p xs ys (few_entries q c.self.invariant.few_qubits) (value_weights seed q c.self.inside.values c.self.invariant.values) (inverse_weights seed q c.self.inside.inverses c.self.invariant.inverses))

pub invariant_of-result : goal.invariant_of-result
invariant_of-result c =
    let seed = c.self.inside.seed in
    let q = c.self.inside.q in
    weights_lists seed q c.self.inside.values.weights c.self.inside.inverses.weights (value_weights seed q c.self.inside.values c.self.invariant.values) (inverse_weights seed q c.self.inside.inverses c.self.invariant.inverses)
