use Rattle.std.proofs.Common.{arith}
use Rattle.qz_check.proofs.TurnLemmas.{rows_none, rows_all}
use Rattle.qz_check.proofs.turns.narrow_column.Goals as goal

pub loop-i-init : goal.loop-i-init
loop-i-init c = rows_none c.args.x.now c.args.y.now c.args.possible.now

pub returns : goal.returns
returns c = rows_all c.args.x.now c.args.y.now c.loop-i.i c.args.possible.now c.loop-i.possible (omega (arith, c.loop-i-test.false)) c.loop-i.invariant
