use Rattle.qz_ring.proofs.Counts.{least-first}
use Rattle.qz_ring.proofs.elem.Elem.leading.Goals as goal

-- the first term has the least exponent
pub returns-clause-least : goal.returns-clause-least
returns-clause-least c = least-first c.args.self.now c.term.result.0 c.term.result.1 c.term.ensures.value (rw c.self.view_is at c.self.invariant.0)
