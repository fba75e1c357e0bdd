use Rattle.std.proofs.Common.{◌≡◌, ℕ, ◌<◌, [], length, slice_index_or}
use Rattle.qz_shard.specs.Shards.{ShardParts}
use Rattle.qz_store_tests.proofs.rounds.sixteen.Given as goal

abbrev pub invariant-loop-k : goal.invariant-loop-k
invariant-loop-k l = record {
  number : length l.shards.items ≡ l.k;
  each : (k : ℕ) (d : ShardParts) → k < l.k → slice_index_or l.shards.items k d ≡ record { number = k; bounds = l.b; probe = l.probe; journal = [] };
}
