use Rattle.std.proofs.Common.{◌≡◌, ◌+◌, refl, arith}
use Rattle.qz_finger.proofs.words.parameters.Goals as goal

pub returns : goal.returns
returns c = λ seed k here.
    let second = c.next_word-first.ensures.moved seed k here in
    let third = c.next_word-second.ensures.moved seed (k + 1) second in
    let last : k + 1 + 1 ≡ k + 2 = omega arith in
    rw (c.next_word-first.ensures.word seed k here, c.next_word-second.ensures.word seed (k + 1) second, c.next_word-third.ensures.word seed (k + 1 + 1) third, last) refl
