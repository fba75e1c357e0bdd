use Rattle.std.proofs.Common.{arith}
use Rattle.qz_check.specs.Sums.{combine, counted_behind}
use Rattle.qz_check.proofs.SumLemmas.{combined_all, combined_more, combined_written}
use Rattle.qz_check.proofs.turned.combined.Goals as goal

pub loop-turn-preserved : goal.loop-turn-preserved
loop-turn-preserved c = record {
  filled = omega (arith, c.push_reserved.ensures.len, c.loop-turn.invariant.filled);
  room = omega (arith, c.push_reserved.ensures.capacity, c.loop-turn.invariant.room);
  each = combined_more (λ m. combine c.args.negated (counted_behind c.args.left.now c.args.left_turn m) (counted_behind c.args.right.now c.args.right_turn m)) c.loop-turn.counts.items _ _ c.loop-turn.turn c.loop-turn.invariant.filled c.push_reserved.ensures.items
      (combined_written c.args.negated c.args.left.now c.args.left_turn c.args.right.now c.args.right_turn c.loop-turn.turn c.count_behind-first.result c.count_behind-second.result c.combined_counts.result c.requires.left_small c.requires.right_small c.count_behind-first.ensures c.count_behind-second.ensures c.combined_counts.ensures)
      c.loop-turn.invariant.each;
}

pub returns : goal.returns
returns c = combined_all c.args.negated c.args.left.now c.args.left_turn c.args.right.now c.args.right_turn c.loop-turn.counts.items (omega (arith, c.loop-turn.invariant.filled, c.loop-turn-test.false)) (λ m less. c.loop-turn.invariant.each m (omega (arith, c.loop-turn-test.false)))
