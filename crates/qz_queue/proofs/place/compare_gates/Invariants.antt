use Rattle.std.proofs.Common.{◌≡◌, ◌-◌, take, length}
use Rattle.qz_queue.proofs.place.compare_gates.Given as goal

abbrev pub invariant-loop-k : goal.invariant-loop-k
invariant-loop-k l = take l.k l.a ≡ take l.k l.c

abbrev pub decreases-loop-k : goal.decreases-loop-k
decreases-loop-k l = length l.a - l.k
