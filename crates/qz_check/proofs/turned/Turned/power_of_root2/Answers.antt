use Rattle.std.proofs.Common.{arith}
use Rattle.qz_check.proofs.SumLemmas.{root_first, root_room, root_more}
use Rattle.qz_check.proofs.turned.Turned.power_of_root2.Goals as goal

pub loop-init : goal.loop-init
loop-init c = record { counts = root_first c.in_ok-power.power c.in_ok-power.ensures.counts; small = c.in_ok-power.ensures.small }

pub times_root2-requires : goal.times_root2-requires
times_root2-requires c = root_room c.loop.counter c.loop.power (omega arith) c.loop.invariant.small

pub loop-preserved : goal.loop-preserved
loop-preserved c = record {
  counts = root_more c.loop.counter _ c.loop.power c.in_ok-product.product _ (omega arith) (omega arith, tt) c.loop.invariant.counts c.in_ok-product.ensures.counts;
  small = c.in_ok-product.ensures.small c.loop.counter c.loop.invariant.small;
}
