use Rattle.std.proofs.Common.{◌≡◌, length, take}
use Rattle.std.specs.Prelude.{sum_by}
use Rattle.qz_shard.specs.Shards.{ShardParts}
use Rattle.qz_repgen.proofs.counts.entries.Given as goal

-- those of the shards so far
abbrev pub invariant-loop-shard : goal.invariant-loop-shard
invariant-loop-shard l = l.all ≡ sum_by (λ (s : ShardParts). length s.journal) (take l.shard-index l.shards)
