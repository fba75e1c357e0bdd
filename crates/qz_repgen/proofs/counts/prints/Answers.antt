use Rattle.std.proofs.Common.{◌≡◌, ◌≤◌, map, take, ap, arith, get_or}
use Rattle.std.specs.Prelude.{sum_by, All}
use Rattle.std.proofs.lemmas.List.{length-map}
use Rattle.std.proofs.lemmas.List.Sums.{sum_by-le, sum_by_more_le}
use Rattle.qz_shard.specs.Shards.{ShardParts, print_at, different_prints}
use Rattle.qz_repgen.proofs.CountLemmas.{few_different}
use Rattle.qz_repgen.proofs.counts.prints.Goals as goal

pub overflow_add-all : goal.overflow_add-all
overflow_add-all c =
    let shards = c.args.shards.now in
    let i = c.loop-shard.shard-index in
    let before : c.loop-shard.all ≡ sum_by different_prints (take i shards) = c.loop-shard.invariant in
    let few : All (λ (s : ShardParts). different_prints s ≤ 9000000) shards = λ k d within.
    let s = get_or shards k d in
    omega (arith, few_different (map (print_at s.bounds s.probe.seed) s.journal), length-map s.journal (print_at s.bounds s.probe.seed), c.requires.few k d within) in
    record { fits = omega (arith, before, c.prints-all.ensures, ap different_prints c.shard-item.is, sum_by_more_le different_prints shards i c.shard-item.result c.loop-shard-test.true, sum_by-le different_prints 9000000 shards few, c.requires.number) }
