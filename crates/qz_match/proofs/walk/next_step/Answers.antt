use Rattle.qz_match.proofs.Walks.{agrees_more}
use Rattle.qz_match.proofs.walk.next_step.Goals as goal

-- no step leads to or from this gate
pub loop-j-preserved : goal.loop-j-preserved
loop-j-preserved c = agrees_more c.args.left.now c.args.seen.now c.loop-j.j c.loop-j.invariant c.in-None.ensures
