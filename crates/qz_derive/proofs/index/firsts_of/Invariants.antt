use Rattle.std.proofs.Common.{take, nat_eq}
use Rattle.indexmap.specs.IndexMap.{get}
use Rattle.qz_circ.specs.Pairs.{pairs_of}
use Rattle.qz_derive.specs.Indexes.{IsIndex}
use Rattle.qz_derive.proofs.index.firsts_of.Given as goal

-- the pairs of the classes so far
abbrev pub invariant-loop-i : goal.invariant-loop-i
invariant-loop-i l = IsIndex (pairs_of (take l.i l.k.lists)) (get nat_eq l.firsts)
