use Rattle.qz_ring.proofs.TermTests.{term_decides}
use Rattle.qz_ring.proofs.term.same_term.Goals as goal

pub returns : goal.returns
returns c = rw c.eq.ensures (term_decides c.args.a c.args.b)
