use Rattle.std.proofs.Common.{◌≡◌, ◌%◌, ◌^◌, ◌∙◌, arith}
use Rattle.std.proofs.lemmas.List.{length-set}
use Rattle.std.proofs.lemmas.List.FromFn.{fill_by_all}
use Rattle.qz_finger.specs.Modulo.{modulus}
use Rattle.qz_finger.specs.Tables.{powers_of}
use Rattle.qz_finger.proofs.Lists.{filled_more}
use Rattle.qz_finger.proofs.Powers.{power_more}
use Rattle.qz_finger.proofs.tables.powers.Goals as goal

pub loop-k-preserved : goal.loop-k-preserved
loop-k-preserved c = record {
  size = length-set c.loop-k.powers c.loop-k.k c.loop-k.power ∙ c.loop-k.invariant.size;
  filled = filled_more (λ m x. x ≡ c.args.base ^ m % modulus) c.loop-k.powers c.loop-k.k c.loop-k.power (omega (arith, c.loop-k.invariant.size)) c.loop-k.invariant.filled c.loop-k.invariant.next;
  next = power_more modulus c.args.base c.loop-k.k c.loop-k.power c.multiply-power.result c.loop-k.invariant.next c.multiply-power.ensures;
}

pub returns : goal.returns
unfolding powers_of
returns c = fill_by_all (λ k. c.args.base ^ k % modulus) c.loop-k.powers 32 0 c.loop-k.invariant.size (λ m h. c.loop-k.invariant.filled m (omega arith))
