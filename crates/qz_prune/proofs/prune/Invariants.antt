use Rattle.std.proofs.Common.{◌≡◌, take}
use Rattle.indexmap.specs.IndexSet.{contains}
use Rattle.qz_circ.specs.Pairs.{pairs_of}
use Rattle.qz_prune.specs.Seen.{same_ranks, Progress}
use Rattle.qz_prune.proofs.prune.Given as goal

-- the pairs of the classes so far are done
abbrev pub invariant-loop-i : goal.invariant-loop-i
invariant-loop-i l = (l.left.bounds ≡ l.k.bounds) × Progress l.k.bounds (pairs_of (take l.i l.k.lists)) l.left.lists (contains same_ranks l.seen)
