use Rattle.std.proofs.Common.{take, length, ◌-◌}
use Rattle.qz_match.proofs.GatherSteps.{IsGathering}
use Rattle.qz_match.proofs.gather.gather_at.Given as goal

-- what is left to gather
abbrev pub invariant-loop-k : goal.invariant-loop-k
invariant-loop-k l = IsGathering l.c (take l.count l.found) l.x l.k l.chosen l.after

abbrev pub decreases-loop-k : goal.decreases-loop-k
decreases-loop-k l = length l.c - l.x
