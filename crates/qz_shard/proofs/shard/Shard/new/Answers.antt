use Rattle.std.proofs.Common.{refl, rules}
use Rattle.qz_circ.specs.Bounds.{IsLawful}
use Rattle.qz_shard.proofs.ShardSteps.{held_none}
use Rattle.qz_shard.proofs.shard.Shard.new.Goals as goal

-- nothing is kept at first
pub invariant_of-result : goal.invariant_of-result
invariant_of-result c =
    let lawful : IsLawful c.args.b = search rules in
    held_none (record { number = c.args.number; bounds = c.args.b; probe = record { seed = c.seed.result; q = c.args.b.q }; journal = c.new.result.items }) c.requires.number lawful refl c.new.ensures.items c.new-2.result.items c.new-3.result c.new-2.ensures.items c.new-3.ensures.empty
