use Rattle.std.proofs.Common.{◌≡◌, ◌+◌, ap, ◌∙◌, arith}
use Rattle.qz_finger.specs.Weights.{entries_on}
use Rattle.qz_finger.specs.Tables.{weights_after}
use Rattle.qz_finger.proofs.ProbeTables.{values_made, inverses_made}
use Rattle.qz_finger.proofs.probe.Probe.new.Goals as goal

pub invariant_of-result : goal.invariant_of-result
invariant_of-result c =
    let seed = c.args.seed in
    let q = c.args.q in
    let n = c.entries_on-size.result in
    let size = c.entries_on-size.ensures.value in
    let first = c.weights-value_weights.ensures.value seed 0 c.generator-rng.ensures in
    let after_first = c.weights-value_weights.ensures.after seed 0 c.generator-rng.ensures in
    let second = c.weights-inverse_weights.ensures.value seed (0 + n) after_first in
    let after_second = c.weights-inverse_weights.ensures.after seed (0 + n) after_first in
    let exponents = c.parameters-exponents.ensures seed (0 + n + n) after_second in
    let skipped : 0 + n ≡ entries_on q = omega arith in
    let place : 0 + n + n ≡ entries_on q + entries_on q = omega arith in
    let values = values_made seed q (0 + n + n) c.parameters-exponents.result c.raised_to-up.result c.raised_to-down.result place exponents c.raised_to-up.ensures c.raised_to-down.ensures in
    let inverses = inverses_made seed q (0 + n + n) c.parameters-exponents.result c.raised_to-up.result c.raised_to-down.result place exponents c.raised_to-up.ensures c.raised_to-down.ensures in
    record {
      some_qubits = c.requires.0;
      few_qubits = c.requires.1;
      values = values c.weights-value_weights.result c.powers.result (first ∙ ap (weights_after seed 0) size) c.powers.ensures;
      inverses = inverses c.weights-inverse_weights.result c.powers-2.result (second ∙ (λ d. weights_after seed (skipped d) (size d))) c.powers-2.ensures;
    }
