use Rattle.qz_circ.proofs.DroppedGates.{Front}
use Rattle.qz_circ.proofs.ranks.drop_first_rank.Given as goal

abbrev pub invariant-loop-first : goal.invariant-loop-first
invariant-loop-first l = Front l.fn.b l.fn.r l.first l.place_value

abbrev pub decreases-loop-first : goal.decreases-loop-first
decreases-loop-first l = l.first
