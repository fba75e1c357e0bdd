use Rattle.std.proofs.Common.{◌≡◌, sym, subst}
use Rattle.qz_finger.specs.Fingerprint.{ProbeParts, fingerprint}
use Rattle.qz_finger.specs.Stands.{ValueLists, StandsFor}
use Rattle.qz_finger.proofs.StandsLemmas.{print_of}
use Rattle.qz_finger.proofs.probe.Probe.finger_of.Goals as goal

pub returns : goal.returns
returns c = λ circuit stands.
    let p : ProbeParts = record { seed = c.self.inside.seed; q = c.self.inside.q } in
    let s : ValueLists = record { values = c.values.inside.values; inverses = c.values.inside.inverses; scale = c.values.inside.scale } in
    let before : StandsFor p circuit s =
    subst (λ (x : ValueLists). StandsFor p circuit x) (sym c.values.view_is) (subst (λ (x : ProbeParts). StandsFor x circuit c.args.values.now) (sym c.self.view_is) stands) in
    subst (λ (x : ProbeParts). c.multiply-2.result ≡ fingerprint x.seed x.q circuit) c.self.view_is
    (print_of p circuit s c.trace-first.result c.trace-second.result c.multiply.result c.multiply-2.result before c.trace-first.ensures c.trace-second.ensures c.multiply.ensures c.multiply-2.ensures)
