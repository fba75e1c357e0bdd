-- What is found in the classes of shards.
use Rattle.std.specs.Prelude.{◌≡◌, ℕ, ◌<◌, ◌==◌, List, ◌++◌, length, map, filter, slice_index, slice_index_or, [], All}
use Rattle.std.specs.List.{AllZip, flat_map}
use Rattle.std.specs.List.Sorted.{IsPermutation, IsNonDecreasing, IsNonDecreasingBy}
use Rattle.qz_circ.specs.Circuit.{Limits}
use Rattle.qz_circ.specs.Order.{circuit_at}
use Rattle.qz_shard.specs.Journals.{AreClassesOf}
use Rattle.qz_repgen.specs.declared.listing.Place.{Place}
use Rattle.qz_repgen.specs.Journals.{several}

-- the first members of the classes, of circuits of k gates
abbrev pub firsts_of_length : Limits → ℕ → List (List ℕ) → List ℕ
firsts_of_length b k classes = filter (λ r. length (circuit_at b r) == k) (map (λ list. slice_index list 0) classes)

-- new is old with the first members of k gates of the journal's classes
pub record AddsFirsts (b : Limits) (k : ℕ) (journal old new : List ℕ) : Type 0 where
  pub classes : List (List ℕ)
  pub are : AreClassesOf b journal classes
  pub items : new ≡ old ++ firsts_of_length b k classes

-- the list has the first members of k gates of all journals' classes, journal by journal
pub record HasFirsts (b : Limits) (k : ℕ) (journals : List (List ℕ)) (found : List ℕ) : Type 0 where
  pub all : List (List (List ℕ))
  pub are : AllZip (AreClassesOf b) journals all
  pub items : found ≡ flat_map (firsts_of_length b k) all

-- it has them in order
pub record ListsFirsts (b : Limits) (k : ℕ) (journals : List (List ℕ)) (found : List ℕ) : Type 0 where
  pub all : List (List (List ℕ))
  pub are : AllZip (AreClassesOf b) journals all
  pub those : IsPermutation (flat_map (firsts_of_length b k) all) found
  pub in_order : IsNonDecreasing found

-- the class at this place, among those of all journals
abbrev pub class_at_place : List (List (List ℕ)) → Place → List ℕ
class_at_place all p = slice_index_or (slice_index_or all p.shard []) p.class []

-- it is a place of a class, with this first member
pub record IsPlaceIn (all : List (List (List ℕ))) (p : Place) : Type 0 where
  pub shard : p.shard < length all
  pub class : p.class < length (slice_index_or all p.shard [])
  pub first : p.first ≡ slice_index (class_at_place all p) 0

-- the row has the places of those of the listed classes that have several members; all are classes of journal number k
pub record ArePlacesOf (k : ℕ) (classes listed : List (List ℕ)) (row : List Place) : Type 0 where
  pub shard : All (λ p. p.shard ≡ k) row
  pub class : All (λ p. p.class < length classes) row
  pub first : All (λ p. p.first ≡ slice_index (slice_index_or classes p.class []) 0) row
  pub lists : map (λ p. slice_index_or classes p.class []) row ≡ several listed

-- new is old with the places of the listed ones among these classes
pub record AddsPlacesOf (k : ℕ) (classes listed : List (List ℕ)) (old new : List Place) : Type 0 where
  pub row : List Place
  pub items : new ≡ old ++ row
  pub are_places : ArePlacesOf k classes listed row

-- new is old with the places of the classes of several members of journal number k
pub record AddsPlaces (b : Limits) (k : ℕ) (journal : List ℕ) (old new : List Place) : Type 0 where
  pub classes : List (List ℕ)
  pub are : AreClassesOf b journal classes
  pub added : AddsPlacesOf k classes classes old new

-- the places of the classes of several members of all journals, journal by journal
pub record HasPlaces (b : Limits) (journals : List (List ℕ)) (places : List Place) : Type 0 where
  pub all : List (List (List ℕ))
  pub are : AllZip (AreClassesOf b) journals all
  pub each : All (IsPlaceIn all) places
  pub lists : map (class_at_place all) places ≡ flat_map several all

-- the same in the order of first members
pub record ListsPlaces (b : Limits) (journals : List (List ℕ)) (places : List Place) : Type 0 where
  pub all : List (List (List ℕ))
  pub are : AllZip (AreClassesOf b) journals all
  pub each : All (IsPlaceIn all) places
  pub those : IsPermutation (flat_map several all) (map (class_at_place all) places)
  pub in_order : IsNonDecreasingBy (λ (p : Place). p.first) places
