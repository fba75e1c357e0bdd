use Rattle.std.proofs.Common.{◌-◌, ◌≤◌, length}
use Rattle.qz_queue.specs.Circuits.{circuits_of, place_of}
use Rattle.qz_queue.proofs.Fronts.{Sides}
use Rattle.qz_queue.proofs.QueueLists.{IsFound}
use Rattle.qz_queue.proofs.place.find.Given as goal

abbrev pub invariant-loop-low : goal.invariant-loop-low
invariant-loop-low l =
    (l.low ≤ place_of l.weights (circuits_of l.list) l.c) × (place_of l.weights (circuits_of l.list) l.c ≤ l.high) × (l.high ≤ length l.list) × Sides l.weights (circuits_of l.list) l.c l.low l.high l.low_same l.high_same × IsFound l.weights (circuits_of l.list) l.c l.high l.found

abbrev pub decreases-loop-low : goal.decreases-loop-low
decreases-loop-low l = l.high - l.low
