use Rattle.qz_shard.specs.Journals.{AreEquivalentRanks, AreClassesOf}
use Rattle.qz_shard.proofs.Partitions.{classes_same}
use Rattle.qz_shard.proofs.laws.classes_of_a_journal_are_unique.Goals as goal

pub returns : goal.returns
unfolding AreClassesOf
returns _ b journal k l hk hl = classes_same (AreEquivalentRanks b) journal k l hk hl
