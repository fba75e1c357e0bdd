-- What is known of each class of a journal.
use Rattle.std.proofs.Common.{◌≡◌, ℕ, ◌<◌, List, [], length, get_or, arith}
use Rattle.std.specs.Prelude.{Contains, slice_index}
use Rattle.std.proofs.lemmas.List.Elements.{Contains-get_or, All-contains}
use Rattle.qz_circ.specs.Circuit.{Limits}
use Rattle.qz_circ.specs.ClassLists.{AreRanks}
use Rattle.qz_circ.specs.Order.{all_circuits, circuit_at}
use Rattle.qz_paths.proofs.Equivalences.{reflexive, symmetric, transitive}
use Rattle.qz_shard.specs.Journals.{AreEquivalentRanks, AreClassesBy, AreClassesOf}
use Rattle.qz_shard.proofs.Partitions as partition

-- a journal has one list of classes
pub one_classes : (b : Limits) (journal : List ℕ) (k l : List (List ℕ)) → AreClassesOf b journal k → AreClassesOf b journal l → k ≡ l
unfolding AreClassesOf
one_classes b journal k l hk hl = partition.classes_same (AreEquivalentRanks b) journal k l hk hl

module _ (b : Limits) (journal : List ℕ) (classes : List (List ℕ)) (are : AreClassesOf b journal classes) (i : ℕ) (inside : i < length classes) where
  abbrev class : List ℕ
  class = get_or classes i []

  abbrev Same : ℕ → ℕ → Type 0
  Same = AreEquivalentRanks b

  by_relation : AreClassesBy Same journal classes
  unfolding AreClassesOf
  by_relation = are

  -- its members are entries
  member_is_entry : (r : ℕ) → Contains class r → Contains journal r
  member_is_entry r has =
      partition.member_entry Same (λ r. reflexive b.q (circuit_at b r)) (λ r s. symmetric b.q (circuit_at b r) (circuit_at b s)) (λ r s t. transitive b.q (circuit_at b r) (circuit_at b s) (circuit_at b t)) journal classes by_relation i r inside has

  -- it has members
  pub some_member : 0 < length class
  some_member =
      let has = partition.earliest_member Same (λ r. reflexive b.q (circuit_at b r)) (λ r s. symmetric b.q (circuit_at b r) (circuit_at b s)) (λ r s t. transitive b.q (circuit_at b r) (circuit_at b s) (circuit_at b t)) journal classes by_relation i inside in
      omega (arith, has.1)

  -- and they are ranks, where the entries are
  pub first_is_rank : AreRanks b journal → slice_index class 0 < length (all_circuits b)
  first_is_rank ranks = All-contains (λ r. r < length (all_circuits b)) journal (get_or class 0 0) ranks (member_is_entry (get_or class 0 0) (Contains-get_or class 0 0 some_member))

  pub members_are_ranks : AreRanks b journal → AreRanks b class
  members_are_ranks ranks k d within = All-contains (λ r. r < length (all_circuits b)) journal (get_or class k d) ranks (member_is_entry (get_or class k d) (Contains-get_or class k d within))
