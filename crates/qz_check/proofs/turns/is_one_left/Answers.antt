use Rattle.std.proofs.Common.{arith}
use Rattle.qz_check.proofs.TurnLemmas.{none_left}
use Rattle.qz_check.proofs.turns.is_one_left.Goals as goal

pub returns : goal.returns
returns c = none_left c.args.possible.now (λ t less. c.loop-turn.invariant t (omega (arith, c.loop-turn-test.false)))
