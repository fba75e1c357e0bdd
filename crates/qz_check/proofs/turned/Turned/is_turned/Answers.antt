use Rattle.std.proofs.Common.{refl, arith}
use Rattle.qz_check.proofs.SumLemmas.{turned_all}
use Rattle.qz_check.proofs.turned.Turned.is_turned.Goals as goal

pub returns : goal.returns
returns c = (λ yes. turned_all c.args.self.now c.args.other.now c.args.by (λ m less. c.loop-turn.invariant m (omega (arith, c.loop-turn-test.false))), λ all. refl)
