-- Journals of kept circuits, and the list that their classes make together.
use Rattle.std.specs.Prelude.{◌≡◌, ℕ, ◌<◌, ◌↔◌, List, [], length, filter, nat_lt, slice_index, slice_index_or, Contains}
use Rattle.std.specs.List.{AllPairs, AllByRecursion, flat_map}
use Rattle.std.specs.List.Sorted.{IsPermutation, IsNonDecreasingBy}
use Rattle.qz_circ.specs.Circuit.{Limits}
use Rattle.qz_circ.specs.Order.{all_circuits, circuit_at}
use Rattle.qz_circ.specs.Classes.{IsKept}
use Rattle.qz_shard.specs.Shards.{home_of}

-- r is the rank of a kept circuit
pub record IsKeptRank (b : Limits) (r : ℕ) : Type 0 where
  pub listed : r < length (all_circuits b)
  pub kept : IsKept b (circuit_at b r)

-- 16 journals have together exactly the numbers of which the fact holds, each once, and in the journal of its home
pub record AreAtHome (home : ℕ → ℕ) (P : ℕ → Type 0) (journals : List (List ℕ)) : Type 0 where
  pub number : length journals ≡ 16
  pub different : AllByRecursion (AllPairs (λ r t. r ≡ t → ⊥)) journals
  pub exactly : (k r : ℕ) → k < 16 → Contains (slice_index_or journals k []) r ↔ (P r × (home r ≡ k))

-- 16 journals have together the kept circuits
abbrev pub HoldKept : Limits → ℕ → List (List ℕ) → Type 0
HoldKept b seed journals = AreAtHome (home_of b seed) (IsKeptRank b) journals

-- those of the classes that have several members
abbrev pub several : List (List ℕ) → List (List ℕ)
several classes = filter (λ list. nat_lt 1 (length list)) classes

-- the list has the classes of several members of all journals, in the order of their first members
pub record AreTogether (all : List (List (List ℕ))) (classes : List (List ℕ)) : Type 0 where
  pub those : IsPermutation (flat_map several all) classes
  pub in_order : IsNonDecreasingBy (λ list. slice_index list 0) classes
