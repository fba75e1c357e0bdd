use Rattle.qz_circ.specs.Order.{circuit_at}
use Rattle.qz_paths.proofs.Equivalences.{reflexive, symmetric, transitive}
use Rattle.qz_shard.specs.Journals.{AreEquivalentRanks, AreClassesOf}
use Rattle.qz_shard.proofs.Partitions.{grown}
use Rattle.qz_shard.proofs.laws.classes_grow_entry_by_entry.Goals as goal

pub returns : goal.returns
unfolding AreClassesOf
returns _ b journal r classes later are are_later = grown (AreEquivalentRanks b) (λ r. reflexive b.q (circuit_at b r)) (λ r s. symmetric b.q (circuit_at b r) (circuit_at b s)) (λ r s t. transitive b.q (circuit_at b r) (circuit_at b s) (circuit_at b t)) r journal classes later are are_later
