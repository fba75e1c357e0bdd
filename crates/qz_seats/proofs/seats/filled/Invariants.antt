use Rattle.std.proofs.Common.{◌≡◌, ◌≤◌, ◌++◌, ◌+◌, Some, map, vec_len, vec_capacity}
use Rattle.qz_seats.proofs.seats.filled.Given as goal

abbrev pub invariant-loop-slots : goal.invariant-loop-slots
invariant-loop-slots g l = (l.slots.items ++ map Some l.values.items ≡ map Some l.fn.values.items) × (vec_len l.slots + vec_len l.values ≤ vec_capacity l.slots)

abbrev pub decreases-loop-slots : goal.decreases-loop-slots
decreases-loop-slots g l = vec_len l.values
