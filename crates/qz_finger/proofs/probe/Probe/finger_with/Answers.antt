use Rattle.std.proofs.Common.{◌≡◌, ◌+◌, ◌%◌, ◌^◌, [], ◌∷◌, ◌++◌, refl, sym, ap, subst, ◌∙◌, arith}
use Rattle.std.specs.Prelude.{slice_index}
use Rattle.qz_circ.specs.Circuit.{ActsBelow}
use Rattle.qz_finger.specs.declared.actions.Step.{Step}
use Rattle.qz_finger.specs.Modulo.{modulus, sum_below}
use Rattle.qz_finger.specs.Weights.{place_of}
use Rattle.qz_finger.specs.Fingerprint.{ProbeParts, bases_of, inverted, fingerprint}
use Rattle.qz_finger.specs.Actions.{value_after}
use Rattle.qz_finger.specs.Stands.{ValueLists, StandsFor}
use Rattle.qz_finger.proofs.PlaceLemmas.{closed}
use Rattle.qz_finger.proofs.ProbeTables.{value_bases, inverse_bases}
use Rattle.qz_finger.proofs.StandsLemmas.{print_with}
use Rattle.qz_finger.proofs.probe.Probe.finger_with.Goals as goal

pub returns : goal.returns
returns c = λ circuit stands.
    let op = c.args.op in
    let seed = c.self.inside.seed in
    let q = c.self.inside.q in
    let p : ProbeParts = record { seed = seed; q = q } in
    let s : ValueLists = record { values = c.values.inside.values; inverses = c.values.inside.inverses; scale = c.values.inside.scale } in
    let acts : ActsBelow q op = subst (λ (x : ProbeParts). ActsBelow x.q op) (sym c.self.view_is) c.requires.gate in
    let before : StandsFor p circuit s =
    subst (λ (x : ValueLists). StandsFor p circuit x) (sym c.values.view_is) (subst (λ (x : ProbeParts). StandsFor x circuit c.args.values.now) (sym c.self.view_is) stands) in
    let step = c.step_of-step.ensures.step (bases_of seed q) (value_bases seed q c.self.inside.values c.self.invariant.values) in
    let inverse = c.step_of-inverse_step.ensures.step (inverted (bases_of seed q)) (inverse_bases seed q c.self.inside.inverses c.self.invariant.inverses) in
    let first = c.trace_after-first.ensures ∙ ap (λ (x : Step). sum_below (λ i. value_after x (slice_index s.values) (place_of q i i)) (2 ^ q) % modulus) step in
    let second = c.trace_after-second.ensures ∙ ap (λ (x : Step). sum_below (λ i. value_after x (slice_index s.inverses) (place_of q i i)) (2 ^ q) % modulus) inverse in
    subst (λ (x : ProbeParts). c.multiply-2.result ≡ fingerprint x.seed x.q (circuit ++ op ∷ [])) c.self.view_is
    (print_with p circuit op s c.trace_after-first.result c.trace_after-second.result c.multiply.result c.halved.result c.multiply-2.result acts before first second c.multiply.ensures c.halved.ensures c.multiply-2.ensures)

pub trace_after-first-requires-clause-control : goal.trace_after-first-requires-clause-control
trace_after-first-requires-clause-control c = omega (arith, c.step_of-step.ensures.control c.self.inside.q (subst (λ (x : ProbeParts). ActsBelow x.q c.args.op) (sym c.self.view_is) c.requires.gate), c.self.invariant.few_qubits)

pub trace_after-first-requires-clause-target : goal.trace_after-first-requires-clause-target
trace_after-first-requires-clause-target c = omega (arith, c.step_of-step.ensures.target c.self.inside.q (subst (λ (x : ProbeParts). ActsBelow x.q c.args.op) (sym c.self.view_is) c.requires.gate), c.self.invariant.few_qubits)

pub trace_after-first-requires-clause-closed : goal.trace_after-first-requires-clause-closed
trace_after-first-requires-clause-closed c = λ k. closed 3 c.step_of-step.result.target 64 k (omega (arith, c.step_of-step.ensures.target c.self.inside.q (subst (λ (x : ProbeParts). ActsBelow x.q c.args.op) (sym c.self.view_is) c.requires.gate), c.self.invariant.few_qubits)) refl

pub trace_after-second-requires-clause-control : goal.trace_after-second-requires-clause-control
trace_after-second-requires-clause-control c = omega (arith, c.step_of-inverse_step.ensures.control c.self.inside.q (subst (λ (x : ProbeParts). ActsBelow x.q c.args.op) (sym c.self.view_is) c.requires.gate), c.self.invariant.few_qubits)

pub trace_after-second-requires-clause-target : goal.trace_after-second-requires-clause-target
trace_after-second-requires-clause-target c = omega (arith, c.step_of-inverse_step.ensures.target c.self.inside.q (subst (λ (x : ProbeParts). ActsBelow x.q c.args.op) (sym c.self.view_is) c.requires.gate), c.self.invariant.few_qubits)

pub trace_after-second-requires-clause-closed : goal.trace_after-second-requires-clause-closed
trace_after-second-requires-clause-closed c = λ k. closed 3 c.step_of-inverse_step.result.target 64 k (omega (arith, c.step_of-inverse_step.ensures.target c.self.inside.q (subst (λ (x : ProbeParts). ActsBelow x.q c.args.op) (sym c.self.view_is) c.requires.gate), c.self.invariant.few_qubits)) refl
