use Rattle.std.proofs.Common.{arith}
use Rattle.qz_check.proofs.ColumnLemmas.{start_more, start_all}
use Rattle.qz_check.proofs.column.start.Goals as goal

pub loop-i-preserved : goal.loop-i-preserved
loop-i-preserved c = record {
  filled = omega (arith, c.push_reserved.ensures.len, c.loop-i.invariant.filled);
  room = omega (arith, c.push_reserved.ensures.capacity, c.loop-i.invariant.room);
  each = start_more c.args.roots c.args.j c.loop-i.i c.loop-i.entries.items _ _ c.loop-i.invariant.filled c.push_reserved.ensures.items c.in_ok-entry.ensures.amounts c.in_ok-entry.ensures.small c.loop-i.invariant.each;
}

pub returns : goal.returns
returns c = start_all c.args.q c.args.roots c.args.j c.loop-i.i c.loop-i.entries.items c.loop-i.invariant.filled (omega (arith, c.states_on-rows.ensures.value, c.loop-i-test.false)) c.loop-i.invariant.each
