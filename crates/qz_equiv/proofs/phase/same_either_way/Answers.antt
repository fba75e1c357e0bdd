use Rattle.qz_equiv.proofs.PhaseLemmas.{second_way}
use Rattle.qz_equiv.proofs.phase.same_either_way.Goals as goal

pub returns : goal.returns
returns c = second_way c.in_ok-same_matrix.field-0 c.in_ok-same.same c.if-branch.false c.in_ok-same_matrix.ensures (rw c.half_turn_more.ensures.value at c.in_ok-same.ensures)
