use Rattle.std.proofs.Common.{◌≡◌, ◌*◌, ◌+◌, refl, arith, ap, ◌∙◌}
use Rattle.qz_random.specs.RandomWords.{generator_after}
use Rattle.qz_top.specs.Trial.{trial_gate}
use Rattle.qz_top.proofs.trial.next_gate.Goals as goal

pub returns-clause-gate : goal.returns-clause-gate
unfolding trial_gate
returns-clause-gate c seed k here =
    let second = c.next_word-kind.ensures.moved seed (3 * k) here in
    let third = c.next_word.ensures.moved seed (3 * k + 1) second in
    let same : 3 * k + 1 + 1 ≡ 3 * k + 2 = omega arith in
    rw (c.gate_of_kind.ensures, c.next_word-kind.ensures.word seed (3 * k) here, c.next_word.ensures.word seed (3 * k + 1) second, c.next_word-choice.ensures.word seed (3 * k + 1 + 1) third, same) refl

pub returns-clause-moved : goal.returns-clause-moved
returns-clause-moved c seed k here =
    let second = c.next_word-kind.ensures.moved seed (3 * k) here in
    let third = c.next_word.ensures.moved seed (3 * k + 1) second in
    let same : 3 * k + 1 + 1 + 1 ≡ 3 * (k + 1) = omega arith in
    c.next_word-choice.ensures.moved seed (3 * k + 1 + 1) third ∙ ap (generator_after seed) same
