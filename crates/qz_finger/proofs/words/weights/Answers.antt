use Rattle.std.proofs.Common.{◌≡◌, ◌+◌, ◌%◌, refl, ap, sym, ◌∙◌, add-zero, arith}
use Rattle.qz_finger.specs.Modulo.{modulus}
use Rattle.qz_random.specs.RandomWords.{generator_after, word}
use Rattle.qz_finger.specs.Tables.{weights_after}
use Rattle.qz_finger.proofs.Lists.{zeros_at, padded}
use Rattle.qz_finger.proofs.words.weights.Goals as goal

pub loop-i-init : goal.loop-i-init
loop-i-init c = record {
  size = refl;
  filled = λ seed k here m h. absurd (omega arith);
  zeros = λ m h. zeros_at 64 m;
  after = λ seed k here. here ∙ ap (generator_after seed) (sym (add-zero k));
}

pub returns-clause-value : goal.returns-clause-value
unfolding weights_after
returns-clause-value c = λ seed k here.
    let all : c.loop-i.i ≡ c.args.size = omega arith in
    padded (λ m. word seed (k + m) % modulus) c.loop-i.weights c.args.size c.loop-i.invariant.size (λ m h. c.loop-i.invariant.filled seed k here m (omega arith)) (λ m h. c.loop-i.invariant.zeros m (omega arith))
