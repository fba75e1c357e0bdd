use Rattle.std.proofs.Common.{sym, subst, ◌∙◌}
use Rattle.qz_shard.specs.Journals.{AreClassesOf}
use Rattle.qz_shard.specs.Shards.{ShardParts}
use Rattle.qz_shard.proofs.ShardSteps.{class_is}
use Rattle.qz_shard.proofs.shard.Shard.class.Goals as goal

-- the members of the class with this number
pub returns : goal.returns
returns c lists are =
    let s : ShardParts = record { number = c.self.inside.number; bounds = c.self.inside.bounds; probe = record { seed = c.self.inside.seed; q = c.self.inside.bounds.q }; journal = c.self.inside.journal.items } in
    c.as_slice.ensures ∙ class_is s c.self.inside.classes.items c.self.inside.newest c.self.invariant lists (subst (λ x. AreClassesOf x.bounds x.journal lists) (sym c.self.view_is) are) c.args.i c.index.result.now (c.requires lists are) c.index.ensures
