use Rattle.std.proofs.Common.{arith}
use Rattle.qz_check.proofs.TurnLemmas.{flag_more}
use Rattle.qz_check.proofs.turns.all_turns.Goals as goal

pub loop-preserved : goal.loop-preserved
loop-preserved c = record {
  filled = omega (arith, c.push_reserved.ensures.len, c.loop.invariant.filled);
  room = omega (arith, c.push_reserved.ensures.capacity, c.loop.invariant.room);
  each = flag_more c.loop.counter c.loop.possible.items _ c.loop.invariant.filled c.push_reserved.ensures.items c.loop.invariant.each;
}
