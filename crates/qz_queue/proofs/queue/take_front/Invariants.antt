use Rattle.std.proofs.Common.{◌≡◌, ◌≤◌, ◌++◌, take, map, vec_capacity}
use Rattle.std.specs.Vec.Iter.{drain_items}
use Rattle.qz_circ.specs.Vectors.{lists_of}
use Rattle.qz_queue.specs.Circuits.{circuits_of}
use Rattle.qz_queue.proofs.queue.take_front.Given as goal

abbrev pub invariant-loop-c : goal.invariant-loop-c
invariant-loop-c l =
    (lists_of l.taken.items ++ circuits_of (drain_items l.c-iterator) ≡ circuits_of (take l.n l.fn.list.items)) × (l.n ≤ vec_capacity l.taken)
