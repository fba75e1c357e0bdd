use Rattle.std.proofs.Common.{◌==◌, arith}
use Rattle.std.specs.Prelude.{pos, if◌then◌else◌}
use Rattle.qz_check.proofs.SumLemmas.{number_all, number_written, combined_more}
use Rattle.qz_check.proofs.turned.number.Goals as goal

pub loop-turn-preserved : goal.loop-turn-preserved
loop-turn-preserved c = record {
  filled = omega (arith, c.push_reserved.ensures.len, c.loop-turn.invariant.filled);
  room = omega (arith, c.push_reserved.ensures.capacity, c.loop-turn.invariant.room);
  each = combined_more (λ m. if m == 0 then (if c.args.is_one then pos 1 else pos 0) else pos 0) c.loop-turn.counts.items _ _ c.loop-turn.turn c.loop-turn.invariant.filled c.push_reserved.ensures.items
      (number_written c.args.is_one c.loop-turn.turn c.count_in_number.result c.count_in_number.ensures) c.loop-turn.invariant.each;
}

pub returns : goal.returns
returns c = number_all (if c.args.is_one then pos 1 else pos 0) c.loop-turn.counts.items (omega (arith, c.loop-turn.invariant.filled, c.loop-turn-test.false)) (λ m less. c.loop-turn.invariant.each m (omega (arith, c.loop-turn-test.false)))
