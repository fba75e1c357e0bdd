use Rattle.std.proofs.Common.{◌%◌, [], ◌∷◌, ◌++◌, sym, subst, arith}
use Rattle.qz_circ.specs.Circuit.{ActsBelow}
use Rattle.qz_circ.specs.Exponent.{angle_exponent}
use Rattle.qz_finger.specs.Modulo.{modulus}
use Rattle.qz_finger.specs.Weights.{entries_on}
use Rattle.qz_finger.specs.Fingerprint.{ProbeParts, bases_of, inverted, value}
use Rattle.qz_finger.specs.Actions.{step_for}
use Rattle.qz_finger.specs.Stands.{ValueLists, StandsFor}
use Rattle.qz_finger.proofs.PlaceLemmas.{closed}
use Rattle.qz_finger.proofs.ProbeTables.{value_bases, inverse_bases}
use Rattle.qz_finger.proofs.StandsLemmas.{after_as, value_step, inverse_step, stands_more}
use Rattle.qz_finger.proofs.probe.Probe.with_gate.Goals as goal

pub after-requires-clause-closed : goal.after-requires-clause-closed
after-requires-clause-closed c = λ k. closed c.self.inside.q c.step_of-step.result.target c.entries_on-size.result k (c.step_of-step.ensures.target c.self.inside.q (subst (λ (x : ProbeParts). ActsBelow x.q c.args.op) (sym c.self.view_is) c.requires.gate)) c.entries_on-size.ensures.value

pub after-requires-2-clause-closed : goal.after-requires-2-clause-closed
after-requires-2-clause-closed c = λ k. closed c.self.inside.q c.step_of-inverse_step.result.target c.entries_on-size.result k (c.step_of-inverse_step.ensures.target c.self.inside.q (subst (λ (x : ProbeParts). ActsBelow x.q c.args.op) (sym c.self.view_is) c.requires.gate)) c.entries_on-size.ensures.value

pub returns : goal.returns
returns c = λ circuit stands.
    let op = c.args.op in
    let seed = c.self.inside.seed in
    let q = c.self.inside.q in
    let p : ProbeParts = record { seed = seed; q = q } in
    let old : ValueLists = record { values = c.values.inside.values; inverses = c.values.inside.inverses; scale = c.values.inside.scale } in
    let new : ValueLists = record { values = c.after.result; inverses = c.after-2.result; scale = c.halved.result } in
    let acts : ActsBelow q op = subst (λ (x : ProbeParts). ActsBelow x.q op) (sym c.self.view_is) c.requires.gate in
    let before : StandsFor p circuit old =
    subst (λ (s : ValueLists). StandsFor p circuit s) (sym c.values.view_is) (subst (λ (x : ProbeParts). StandsFor x circuit c.args.values.now) (sym c.self.view_is) stands) in
    let step = c.step_of-step.ensures.step (bases_of seed q) (value_bases seed q c.self.inside.values c.self.invariant.values) in
    let inverse = c.step_of-inverse_step.ensures.step (inverted (bases_of seed q)) (inverse_bases seed q c.self.inside.inverses c.self.invariant.inverses) in
    let first = after_as c.step_of-step.result (value_step p op) c.entries_on-size.result (entries_on q) old.values new.values step c.entries_on-size.ensures.value c.after.ensures.after in
    let second = after_as c.step_of-inverse_step.result (inverse_step p op) c.entries_on-size.result (entries_on q) old.inverses new.inverses inverse c.entries_on-size.ensures.value c.after-2.ensures.after in
    subst (λ (x : ProbeParts). StandsFor x (circuit ++ op ∷ []) new) c.self.view_is (stands_more p circuit op old new acts before first second c.halved.ensures)

pub after-requires-clause-control : goal.after-requires-clause-control
after-requires-clause-control c = omega (arith, c.step_of-step.ensures.control c.self.inside.q (subst (λ (x : ProbeParts). ActsBelow x.q c.args.op) (sym c.self.view_is) c.requires.gate), c.self.invariant.few_qubits)

pub after-requires-clause-target : goal.after-requires-clause-target
after-requires-clause-target c = omega (arith, c.step_of-step.ensures.target c.self.inside.q (subst (λ (x : ProbeParts). ActsBelow x.q c.args.op) (sym c.self.view_is) c.requires.gate), c.self.invariant.few_qubits)

pub after-requires-2-clause-control : goal.after-requires-2-clause-control
after-requires-2-clause-control c = omega (arith, c.step_of-inverse_step.ensures.control c.self.inside.q (subst (λ (x : ProbeParts). ActsBelow x.q c.args.op) (sym c.self.view_is) c.requires.gate), c.self.invariant.few_qubits)

pub after-requires-2-clause-target : goal.after-requires-2-clause-target
after-requires-2-clause-target c = omega (arith, c.step_of-inverse_step.ensures.target c.self.inside.q (subst (λ (x : ProbeParts). ActsBelow x.q c.args.op) (sym c.self.view_is) c.requires.gate), c.self.invariant.few_qubits)
