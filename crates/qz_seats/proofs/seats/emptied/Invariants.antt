use Rattle.std.proofs.Common.{◌≡◌, ℕ, ◌<◌, ◌≤◌, Some, map, take, slice_index_or, false, true, vec_capacity}
use Rattle.std.specs.Mem.Slots.{slots_len, slots_items, slots_filled}
use Rattle.qz_seats.proofs.seats.emptied.Given as goal

abbrev pub invariant-loop-i : goal.invariant-loop-i
invariant-loop-i g l =
    (slots_items l.closed.slots ≡ slots_items l.fn.closed.slots)
    × (slots_len l.closed.slots ≡ slots_len l.fn.closed.slots)
    × (map Some l.values.items ≡ take l.i (slots_items l.fn.closed.slots))
    × (vec_capacity l.values ≡ vec_capacity l.fn.room)
    × ((k : ℕ) → l.i ≤ k → k < slots_len l.closed.slots → slice_index_or (slots_filled l.closed.slots) k false ≡ true)
    × ((k : ℕ) → k < l.i → slice_index_or (slots_filled l.closed.slots) k false ≡ false)
