use Rattle.std.proofs.lemmas.Slice.Eq.{slice_eq-Decides}
use Rattle.qz_ring.proofs.TermTests.{term_decides}
use Rattle.qz_ring.proofs.elem.same_terms.Goals as goal

pub returns : goal.returns
returns c = slice_eq-Decides term_decides c.args.left.now c.args.right.now c.eq.result c.eq.ensures
