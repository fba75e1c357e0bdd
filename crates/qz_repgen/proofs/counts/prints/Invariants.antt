use Rattle.std.proofs.Common.{◌≡◌, take}
use Rattle.std.specs.Prelude.{sum_by}
use Rattle.qz_shard.specs.Shards.{different_prints}
use Rattle.qz_repgen.proofs.counts.prints.Given as goal

-- those of the shards so far
abbrev pub invariant-loop-shard : goal.invariant-loop-shard
invariant-loop-shard l = l.all ≡ sum_by different_prints (take l.shard-index l.shards)
