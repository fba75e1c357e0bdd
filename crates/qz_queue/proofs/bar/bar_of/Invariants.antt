use Rattle.std.proofs.Common.{◌≡◌, ◌-◌, take, length}
use Rattle.qz_queue.proofs.bar.bar_of.Given as goal

abbrev pub invariant-loop-k : goal.invariant-loop-k
invariant-loop-k l = take l.k l.last ≡ take l.k l.c

abbrev pub decreases-loop-k : goal.decreases-loop-k
decreases-loop-k l = length l.last - l.k
