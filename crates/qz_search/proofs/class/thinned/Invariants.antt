use Rattle.std.specs.Vec.Iter.{into_iter_items}
use Rattle.qz_circ.specs.Vectors.{lists_of}
use Rattle.qz_search.proofs.Pairs.{IsThinning}
use Rattle.qz_search.proofs.class.thinned.Given as goal

abbrev pub invariant-loop-c : goal.invariant-loop-c
invariant-loop-c l = IsThinning (lists_of l.fn.members.items) (lists_of l.kept.items) (lists_of (into_iter_items l.c-iterator))
