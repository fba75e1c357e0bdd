use Rattle.std.proofs.Common.{◌≡◌, ◌≤◌, ◌-◌, ◌*◌, length, take}
use Rattle.qz_circ.specs.ProgramCircuits.{cost}
use Rattle.qz_circ.proofs.costs.price.Given as goal

abbrev pub invariant-loop-k : goal.invariant-loop-k
invariant-loop-k l = (l.sum ≡ cost l.weights (take l.k l.c)) × (l.sum ≤ 255 * l.k)

abbrev pub decreases-loop-k : goal.decreases-loop-k
decreases-loop-k l = length l.c - l.k
