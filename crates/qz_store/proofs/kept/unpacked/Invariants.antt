use Rattle.std.proofs.Common.{◌≡◌, ◌≤◌, ◌+◌, ◌++◌, map, vec_len, vec_capacity, All}
use Rattle.qz_shard.specs.Shards.{IsShard}
use Rattle.qz_store.specs.declared.kept.Kept.{Kept}
use Rattle.qz_store.proofs.kept.unpacked.Given as goal

abbrev pub invariant-loop-packed : goal.invariant-loop-packed
invariant-loop-packed l = record {
  moved : l.shards.items ++ map (λ (kept : Kept). kept.shard) l.packed.items ≡ map (λ (kept : Kept). kept.shard) l.fn.packed.items;
  are_shards : All IsShard l.shards.items;
  room : vec_len l.shards + vec_len l.packed ≤ vec_capacity l.shards;
}

abbrev pub decreases-loop-packed : goal.decreases-loop-packed
decreases-loop-packed l = vec_len l.packed
