use Rattle.std.proofs.Common.{ℕ, List, ◌++◌, map, take, nat_eq}
use Rattle.indexmap.specs.IndexMap.{get}
use Rattle.qz_circ.specs.Pairs.{Pair}
use Rattle.qz_derive.specs.Indexes.{IsIndex}
use Rattle.qz_derive.proofs.IndexLemmas.{pair}
use Rattle.qz_derive.proofs.index.add_class.Given as goal

-- those so far are added
abbrev pub invariant-loop-r : goal.invariant-loop-r
invariant-loop-r l = (pairs : List Pair) → IsIndex pairs (get nat_eq l.fn.firsts) → IsIndex (pairs ++ map (pair l.first) (take l.r-index l.later)) (get nat_eq l.firsts)
