use Rattle.std.proofs.lemmas.List.Sorted.{IsNonDecreasingBy-from_sort}
use Rattle.qz_repgen.proofs.ListingLemmas.{firsts_more, firsts_all}
use Rattle.qz_repgen.proofs.rounds.firsts.Goals as goal

pub loop-shard-preserved : goal.loop-shard-preserved
loop-shard-preserved c = firsts_more c.args.b c.args.k c.args.shards.now c.loop-shard.shard-index c.shard-item.result c.loop-shard.found.items c.add_firsts.new.found.items c.loop-shard-test.true c.shard-item.is c.loop-shard.invariant c.in_ok-add_firsts.ensures

pub returns : goal.returns
returns c =
    firsts_all c.args.b c.args.k c.args.shards.now c.loop-shard.shard-index c.loop-shard.found.items c.sort_unstable.new.self.items c.loop-shard-test.false c.loop-shard.invariant c.sort_unstable.ensures.permutation
    (IsNonDecreasingBy-from_sort (λ x. x) c.sort_unstable.new.self.items c.sort_unstable.ensures.sorted)
