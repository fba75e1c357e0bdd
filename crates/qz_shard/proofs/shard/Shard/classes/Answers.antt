use Rattle.std.proofs.Common.{sym, subst, arith}
use Rattle.qz_shard.specs.Journals.{AreClassesOf}
use Rattle.qz_shard.specs.Shards.{ShardParts}
use Rattle.qz_shard.specs.Held.{members_in}
use Rattle.qz_shard.proofs.ShardSteps.{number_is}
use Rattle.qz_shard.proofs.shard.Shard.classes.Goals as goal

-- as many as there are lists of members
pub returns-clause-number : goal.returns-clause-number
returns-clause-number c lists are =
    let s : ShardParts = record { number = c.self.inside.number; bounds = c.self.inside.bounds; probe = record { seed = c.self.inside.seed; q = c.self.inside.bounds.q }; journal = c.self.inside.journal.items } in
    omega (arith, c.len.ensures, c.self.inside.classes.ok.0, number_is s c.self.inside.classes.items c.self.inside.newest c.self.invariant lists (subst (λ x. AreClassesOf x.bounds x.journal lists) (sym c.self.view_is) are))

pub returns-clause-exist : goal.returns-clause-exist
returns-clause-exist c = (members_in c.self.inside.classes.items, subst (λ x. AreClassesOf x.bounds x.journal (members_in c.self.inside.classes.items)) c.self.view_is c.self.invariant.partition)
