use Rattle.std.proofs.Common.{arith}
use Rattle.qz_check.proofs.TurnLemmas.{narrowed_none}
use Rattle.qz_check.proofs.turns.narrow.Goals as goal

pub loop-turn-init : goal.loop-turn-init
loop-turn-init c = narrowed_none c.args.x.now c.args.y.now c.args.possible.now

pub returns : goal.returns
returns c = λ t less. c.loop-turn.invariant.done t (omega (arith, c.loop-turn-test.false)) (omega (arith, c.requires))
