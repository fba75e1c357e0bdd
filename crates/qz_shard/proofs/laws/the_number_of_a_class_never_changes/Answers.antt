use Rattle.qz_circ.specs.Order.{circuit_at}
use Rattle.qz_paths.proofs.Equivalences.{reflexive, symmetric, transitive}
use Rattle.qz_shard.specs.Journals.{AreEquivalentRanks, AreClassesOf}
use Rattle.qz_shard.proofs.Partitions.{stays}
use Rattle.qz_shard.proofs.laws.the_number_of_a_class_never_changes.Goals as goal

pub returns : goal.returns
unfolding AreClassesOf
returns _ b journal more classes later are are_later = stays (AreEquivalentRanks b) (λ r. reflexive b.q (circuit_at b r)) (λ r s. symmetric b.q (circuit_at b r) (circuit_at b s)) (λ r s t. transitive b.q (circuit_at b r) (circuit_at b s) (circuit_at b t)) journal more classes later are are_later
