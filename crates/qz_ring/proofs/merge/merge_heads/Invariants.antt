use Rattle.std.proofs.Common.{◌+◌, ◌-◌, ◌≤◌, length, drop}
use Rattle.qz_ring.specs.Merging.{IsMerging}
use Rattle.qz_ring.proofs.merge.merge_heads.Given as goal

abbrev pub invariant-loop-i : goal.invariant-loop-i
invariant-loop-i l = record {
  merging : IsMerging l.negated l.left l.right l.merged.items (drop l.i l.left) (drop l.j l.right);
  left_within : l.i ≤ length l.left;
  right_within : l.j ≤ length l.right;
  room : length l.left + length l.right ≤ l.merged.capacity;
}

abbrev pub decreases-loop-i : goal.decreases-loop-i
decreases-loop-i l = (length l.left - l.i) + (length l.right - l.j)
