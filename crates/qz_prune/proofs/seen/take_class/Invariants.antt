use Rattle.std.proofs.Common.{◌≡◌, List, ◌++◌, map, take}
use Rattle.indexmap.specs.IndexSet.{contains}
use Rattle.qz_circ.specs.Pairs.{Pair}
use Rattle.qz_prune.specs.Seen.{same_ranks, Progress}
use Rattle.qz_prune.proofs.Steps.{pair_of_ranks}
use Rattle.qz_prune.proofs.seen.take_class.Given as goal

-- the pairs so far are done
abbrev pub invariant-loop-later : goal.invariant-loop-later
invariant-loop-later l =
    (l.left.bounds ≡ l.fn.left.bounds) × ((done : List Pair) → Progress l.fn.left.bounds done l.fn.left.lists (contains same_ranks l.fn.seen) →
    Progress l.fn.left.bounds (done ++ map (pair_of_ranks l.first) (take l.later-index l.rest)) l.left.lists (contains same_ranks l.seen))
