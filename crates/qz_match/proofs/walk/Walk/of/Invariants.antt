use Rattle.std.proofs.Common.{not, count_by}
use Rattle.qz_match.proofs.Walks.{IsUnderWay}
use Rattle.qz_match.proofs.walk.Walk.of.Given as goal

-- what is seen is what the steps reach
abbrev pub invariant-loop-seen : goal.invariant-loop-seen
invariant-loop-seen l = IsUnderWay l.left l.seen l.found l.count

abbrev pub decreases-loop-seen : goal.decreases-loop-seen
decreases-loop-seen l = count_by not l.seen
