use Rattle.qz_derive.proofs.Descending.{Descending}
use Rattle.qz_derive.proofs.descent.descend.Given as goal

-- the ranks so far
abbrev pub invariant-lowering : goal.invariant-lowering
invariant-lowering l = Descending l.fn.b l.fn.r l.ranks.items l.lowest

abbrev pub decreases-lowering : goal.decreases-lowering
decreases-lowering l = l.lowest
