use Rattle.std.proofs.Common.{take}
use Rattle.indexmap.specs.IndexSet.{contains}
use Rattle.qz_prune.specs.Seen.{same_ranks, Gains, IsMade}
use Rattle.qz_prune.proofs.seen.add_all.Given as goal

-- what those so far make is added
abbrev pub invariant-loop-r : goal.invariant-loop-r
invariant-loop-r l = Gains l.b (IsMade l.b (take l.r-index l.all) l.left l.right) (contains same_ranks l.fn.seen) (contains same_ranks l.seen)
