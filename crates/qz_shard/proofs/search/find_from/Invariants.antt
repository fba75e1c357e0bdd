use Rattle.qz_shard.proofs.Walk.{IsWalk, past}
use Rattle.qz_shard.proofs.search.find_from.Given as goal

abbrev pub invariant-loop-at : goal.invariant-loop-at
invariant-loop-at g l = IsWalk l.b l.classes l.last l.r l.fn.steps l.steps l.at

abbrev pub decreases-loop-at : goal.decreases-loop-at
decreases-loop-at g l = past l.at
