use Rattle.std.proofs.Common.{arith}
use Rattle.qz_matrix.proofs.AfterGateLemmas.{turned_none, turn_room, turned_more, turned_all}
use Rattle.qz_matrix.proofs.gates.step_rz.Goals as goal

pub loop-k-init : goal.loop-k-init
loop-k-init c = turned_none c.args.t c.args.angle c.args.entries.now

pub shift_where-requires : goal.shift_where-requires
shift_where-requires c = turn_room c.args.t c.args.angle c.loop-k.k c.exponent_of_angle-by.result _ c.args.entries.now c.loop-k.entries c.loop-k.invariant (omega arith) c.requires.reaches c.exponent_of_angle-by.ensures.reach

pub loop-k-preserved : goal.loop-k-preserved
loop-k-preserved c = turned_more c.args.t c.args.angle c.loop-k.k c.exponent_of_angle-by.result c.has_bit-wanted.result c.index-entries-k.result c.shift_where.new.entry c.args.entries.now c.loop-k.entries c.loop-k.invariant (omega arith) c.exponent_of_angle-by.ensures.reach c.exponent_of_angle-by.ensures.value c.has_bit-wanted.ensures c.shift_where.ensures

pub returns : goal.returns
returns c = turned_all c.args.t c.args.angle c.loop-k.k c.args.entries.now c.loop-k.entries (omega arith) c.loop-k.invariant
