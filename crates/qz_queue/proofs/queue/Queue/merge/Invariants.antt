use Rattle.std.proofs.Common.{◌≡◌, ◌++◌}
use Rattle.std.specs.Vec.Iter.{into_iter_items}
use Rattle.qz_circ.specs.Queue.{firsts}
use Rattle.qz_queue.specs.Circuits.{circuits_of, ArePriced}
use Rattle.qz_queue.proofs.queue.Queue.merge.Given as goal

abbrev pub invariant-loop-c : goal.invariant-loop-c
invariant-loop-c l =
    (l.self.cap ≡ l.fn.self.cap) × (l.self.weights ≡ l.fn.self.weights) × (firsts l.self.weights l.self.cap l.self.list ≡ l.self.list)
    × (firsts l.self.weights l.self.cap (l.self.list ++ circuits_of (into_iter_items l.c-iterator)) ≡ firsts l.fn.self.weights l.fn.self.cap (l.fn.self.list ++ l.fn.other.list))
    × ArePriced l.fn.self.weights (into_iter_items l.c-iterator)
