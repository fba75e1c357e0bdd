use Rattle.qz_circ.specs.Order.{circuit_at}
use Rattle.qz_paths.proofs.Equivalences.{reflexive, symmetric, transitive}
use Rattle.qz_shard.specs.Journals.{AreEquivalentRanks, AreClassesOf}
use Rattle.qz_shard.proofs.Partitions.{covered, member_entry, members_related, classes_apart}
use Rattle.qz_shard.proofs.laws.classes_are_a_partition.Goals as goal

pub returns-clause-covered : goal.returns-clause-covered
unfolding AreClassesOf
returns-clause-covered _ b journal classes are = covered (AreEquivalentRanks b) (λ r. reflexive b.q (circuit_at b r)) (λ r s. symmetric b.q (circuit_at b r) (circuit_at b s)) (λ r s t. transitive b.q (circuit_at b r) (circuit_at b s) (circuit_at b t)) journal classes are

pub returns-clause-entries : goal.returns-clause-entries
unfolding AreClassesOf
returns-clause-entries _ b journal classes are = member_entry (AreEquivalentRanks b) (λ r. reflexive b.q (circuit_at b r)) (λ r s. symmetric b.q (circuit_at b r) (circuit_at b s)) (λ r s t. transitive b.q (circuit_at b r) (circuit_at b s) (circuit_at b t)) journal classes are

pub returns-clause-equivalent : goal.returns-clause-equivalent
unfolding AreClassesOf
returns-clause-equivalent _ b journal classes are = members_related (AreEquivalentRanks b) (λ r. reflexive b.q (circuit_at b r)) (λ r s. symmetric b.q (circuit_at b r) (circuit_at b s)) (λ r s t. transitive b.q (circuit_at b r) (circuit_at b s) (circuit_at b t)) journal classes are

pub returns-clause-apart : goal.returns-clause-apart
unfolding AreClassesOf
returns-clause-apart _ b journal classes are = classes_apart (AreEquivalentRanks b) (λ r. reflexive b.q (circuit_at b r)) (λ r s. symmetric b.q (circuit_at b r) (circuit_at b s)) (λ r s t. transitive b.q (circuit_at b r) (circuit_at b s) (circuit_at b t)) journal classes are
