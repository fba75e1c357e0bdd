use Rattle.std.specs.Prelude.{Err}
use Rattle.std.proofs.lemmas.List.Sorted.{searched}
use Rattle.qz_shard.proofs.Insertion.{not_falling}
use Rattle.qz_shard.proofs.class.place_among.Goals as goal

-- the place between those that are below the number and those that are above it
pub returns-in-Err-clause-before : goal.returns-in-Err-clause-before
returns-in-Err-clause-before c = (searched c.args.members.now c.args.r (Err c.in-Err.place) c.in-Err.ensures.position (not_falling c.args.members.now c.requires.rising)).1

pub returns-in-Err-clause-after : goal.returns-in-Err-clause-after
returns-in-Err-clause-after c = (searched c.args.members.now c.args.r (Err c.in-Err.place) c.in-Err.ensures.position (not_falling c.args.members.now c.requires.rising)).2
