use Rattle.std.proofs.Common.{◌≡◌, ℕ, length, take, ap, arith}
use Rattle.std.specs.Prelude.{sum_by}
use Rattle.std.proofs.lemmas.List.Sums.{sum_by-le, sum_by_more_le}
use Rattle.qz_shard.specs.Shards.{ShardParts}
use Rattle.qz_repgen.proofs.counts.entries.Goals as goal

pub overflow_add-all : goal.overflow_add-all
overflow_add-all c =
    let f : ShardParts → ℕ = λ s. length s.journal in
    let shards = c.args.shards.now in
    let i = c.loop-shard.shard-index in
    let before : c.loop-shard.all ≡ sum_by f (take i shards) = c.loop-shard.invariant in
    record { fits = omega (arith, before, c.len-all.ensures.value, ap f c.shard-item.is, sum_by_more_le f shards i c.shard-item.result c.loop-shard-test.true, sum_by-le f 9000000 shards c.requires.few, c.requires.number) }
