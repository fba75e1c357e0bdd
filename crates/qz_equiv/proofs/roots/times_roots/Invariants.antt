use Rattle.std.proofs.Common.{◌+◌, ◌-◌, ◌^◌, ◌≤◌}
use Rattle.qz_ring.specs.Terms.{weight_of, largest_reach}
use Rattle.qz_equiv.specs.Phases.{IsTimesRoots}
use Rattle.qz_equiv.proofs.roots.times_roots.Given as goal

abbrev pub invariant-loop : goal.invariant-loop
invariant-loop l = record {
  counts : IsTimesRoots l.counter l.sum l.product;
  weight : weight_of l.product ≤ 2 ^ (100 - l.roots + l.counter);
  reach : largest_reach l.product ≤ largest_reach l.sum;
}
