-- The classes of a journal: its entries, put together where they are related.
use Rattle.std.specs.Prelude.{◌≡◌, ◌↔◌, ◌⊎◌, ℕ, ◌<◌, List, [], length, slice_index, slice_index_or, slice_set, Contains}
use Rattle.std.specs.List.{AllZip}
use Rattle.std.specs.List.Sorted.{IsStrictlyIncreasing}
use Rattle.qz_circ.specs.Circuit.{Limits}
use Rattle.qz_circ.specs.Classes.{ListsExactly}
use Rattle.qz_circ.specs.Equivalence.{Equivalent}
use Rattle.qz_circ.specs.Order.{circuit_at}

module _ (R : ℕ → ℕ → Type 0) (journal : List ℕ) where
  -- no earlier entry is related to the entry at place i
  pub record IsEarliest (i : ℕ) : Type 0 where
    pub within : i < length journal
    pub first : (j : ℕ) → j < i → R (slice_index journal j) (slice_index journal i) → ⊥

  -- s is an entry to which the entry at place i is related
  abbrev pub IsRelatedEntry : ℕ → ℕ → Type 0
  IsRelatedEntry i s = Contains journal s × R (slice_index journal i) s

  -- for each entry to which no earlier one is related, in the order of the journal, the entries to which it is related, rising
  pub record AreClassesBy (classes : List (List ℕ)) : Type 0 where
    pub earliest : List ℕ
    pub each_earliest : ListsExactly IsEarliest earliest
    pub each_class : AllZip (λ i class. ListsExactly (IsRelatedEntry i) class) earliest classes

-- the circuits with these ranks are equivalent
abbrev pub AreEquivalentRanks : Limits → ℕ → ℕ → Type 0
AreEquivalentRanks b r s = Equivalent b.q (circuit_at b r) (circuit_at b s)

-- these are the classes of a journal of ranks by equivalence: each class rises, and the classes stand in the order in which the
-- earliest entry of each one came into the journal
unfoldable pub AreClassesOf : Limits → List ℕ → List (List ℕ) → Type 0
AreClassesOf b journal classes = AreClassesBy (AreEquivalentRanks b) journal classes

-- new is old with r as one more member, in its place
pub record AddsMember (r : ℕ) (old new : List ℕ) : Type 0 where
  pub rising : IsStrictlyIncreasing new
  pub exactly : (s : ℕ) → Contains new s ↔ (Contains old s ⊎ (s ≡ r))

-- new is old with r as one more member of one of the classes
pub record JoinsOne (r : ℕ) (old new : List (List ℕ)) : Type 0 where
  pub number : ℕ
  pub within : number < length old
  pub class : List ℕ
  pub adds : AddsMember r (slice_index_or old number []) class
  pub lists : new ≡ slice_set old number class
