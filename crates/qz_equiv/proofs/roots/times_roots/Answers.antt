use Rattle.std.proofs.Common.{◌-◌, sym, subst, ap, arith}
use Rattle.qz_ring.specs.Terms.{largest_reach, weight_of}
use Rattle.qz_equiv.specs.Phases.{IsTimesRoots}
use Rattle.qz_equiv.proofs.RootLemmas.{no_roots, roots_more, room_first, root_room, room_more}
use Rattle.qz_equiv.proofs.roots.times_roots.Goals as goal

pub loop-init : goal.loop-init
loop-init c = record {
  counts = subst (IsTimesRoots 0 c.args.sum.now) (sym c.in_ok-product.ensures) (no_roots c.args.sum.now);
  weight = room_first (100 - c.args.roots) _ _ (ap weight_of c.in_ok-product.ensures) c.requires.weight;
  reach = omega (arith, ap largest_reach c.in_ok-product.ensures);
}

pub times_root2-requires : goal.times_root2-requires
times_root2-requires c = root_room c.args.roots c.loop.counter _ c.requires.few (omega arith) c.loop.invariant.weight

pub loop-preserved : goal.loop-preserved
loop-preserved c = record {
  counts = roots_more c.loop.counter _ c.args.sum.now c.loop.product _ (omega arith) c.loop.invariant.counts c.in_ok-times_root2.ensures.counts;
  weight = room_more (100 - c.args.roots) c.loop.counter _ _ c.loop.invariant.weight c.in_ok-times_root2.ensures.weight;
  reach = omega (arith, c.in_ok-times_root2.ensures.reach, c.loop.invariant.reach);
}
