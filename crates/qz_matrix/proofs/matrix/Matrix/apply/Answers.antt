use Rattle.std.proofs.Common.{◌+◌, ◌∷◌, ◌++◌, [], sym, subst}
use Rattle.qz_circ.specs.Circuit.{ActsBelow}
use Rattle.qz_matrix.specs.Entries.{Entries, StandsFor}
use Rattle.qz_matrix.proofs.MatrixLemmas.{matrix_weights, stands_after_gate}
use Rattle.qz_matrix.proofs.matrix.Matrix.apply.Goals as goal

pub step-requires-clause-weights : goal.step-requires-clause-weights
step-requires-clause-weights c = matrix_weights _ c.self.invariant

pub returns-clause-applied : goal.returns-clause-applied
returns-clause-applied c = λ circuit is.
    let old : Entries = record { q = c.self.inside.q; gates = c.self.inside.gates; halves = c.self.inside.halves; sums = c.self.inside.entries.items } in
    let acts = subst (λ (m : Entries). ActsBelow m.q c.args.op) (sym c.self.view_is) c.requires.gate in
    subst (λ h. StandsFor (record { q = old.q; gates = old.gates + 1; halves = old.halves + h; sums = c.step.new.entries.items }) (circuit ++ c.args.op ∷ [])) (sym c.halves_of.ensures)
    (stands_after_gate old c.args.op c.step.new.entries.items circuit acts c.self.invariant.size c.in_ok-step.ensures.ok (subst (λ (m : Entries). StandsFor m circuit) (sym c.self.view_is) is))
