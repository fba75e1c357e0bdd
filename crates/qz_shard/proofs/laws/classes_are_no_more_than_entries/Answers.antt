use Rattle.qz_shard.specs.Journals.{AreEquivalentRanks, AreClassesOf}
use Rattle.qz_shard.proofs.Partitions.{few_classes}
use Rattle.qz_shard.proofs.laws.classes_are_no_more_than_entries.Goals as goal

pub returns : goal.returns
unfolding AreClassesOf
returns _ b journal classes are = few_classes (AreEquivalentRanks b) journal classes are
