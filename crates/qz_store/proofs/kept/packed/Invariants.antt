use Rattle.std.proofs.Common.{◌≡◌, ◌≤◌, ◌+◌, ◌++◌, map, vec_len, vec_capacity, All}
use Rattle.qz_shard.specs.Shards.{IsShard}
use Rattle.qz_store.specs.declared.kept.Kept.{Kept}
use Rattle.qz_store.proofs.kept.packed.Given as goal

abbrev pub invariant-loop-packed : goal.invariant-loop-packed
invariant-loop-packed l = record {
  moved : map (λ (kept : Kept). kept.shard) l.packed.items ++ l.shards.items ≡ l.fn.shards.items;
  names : All (λ (kept : Kept). kept.names.value.items ≡ l.list.items) l.packed.items;
  are_shards : All (λ (kept : Kept). IsShard kept.shard) l.packed.items;
  room : vec_len l.packed + vec_len l.shards ≤ vec_capacity l.packed;
}

abbrev pub decreases-loop-packed : goal.decreases-loop-packed
decreases-loop-packed l = vec_len l.shards
