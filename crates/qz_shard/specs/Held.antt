-- What a shard in memory keeps: its classes, of which those with one fingerprint form a chain.
use Rattle.std.specs.Prelude.{◌≡◌, ◌≢◌, ℕ, ◌+◌, ◌<◌, ◌≤◌, nat_eq, if◌then◌else◌, Option, Some, None, is_some, List, [], ◌∷◌, ◌++◌, length, map, slice_index, slice_index_or, slice_set, Contains, All}
use Rattle.std.specs.List.Sorted.{IsStrictlyIncreasing}
use Rattle.indexmap.specs.IndexMap.{IndexMap, get, index_map_len}
use Rattle.qz_circ.specs.Circuit.{Limits}
use Rattle.qz_circ.specs.Order.{all_circuits}
use Rattle.qz_shard.specs.declared.class.Class.{Class}
use Rattle.qz_shard.specs.Journals.{AreClassesOf, AreEquivalentRanks, AddsMember}
use Rattle.qz_shard.specs.Shards.{ShardParts, IsShard, print_at, different_prints}

-- the fingerprints of the classes
abbrev pub prints_in : List Class → List ℕ
prints_in classes = map (λ c. c.print) classes

-- their links to earlier classes
abbrev pub links_in : List Class → List (Option ℕ)
links_in classes = map (λ c. c.before) classes

-- their members
abbrev pub members_in : List Class → List (List ℕ)
members_in classes = map (λ c. c.members.items) classes

-- the members of class k
abbrev pub members_at : List Class → ℕ → List ℕ
members_at classes k = slice_index_or (members_in classes) k []

-- the first member of class k
abbrev pub first_at : List Class → ℕ → ℕ
first_at classes k = slice_index (members_at classes k) 0

-- it is the last place below n at which the fingerprint stands; with no place it stands at none of them
abbrev pub IsLastBelow : List ℕ → ℕ → ℕ → Option ℕ → Type 0
IsLastBelow prints print n (Some k) = (k < n) × (slice_index prints k ≡ print) × ((j : ℕ) → k < j → j < n → slice_index prints j ≢ print)
IsLastBelow prints print n None = (j : ℕ) → j < n → slice_index prints j ≢ print

-- each class has a link to the last class before it that has its fingerprint
abbrev pub AreLinked : List Class → Type 0
AreLinked classes = (k : ℕ) → k < length classes → IsLastBelow (prints_in classes) (slice_index (prints_in classes) k) k (slice_index_or (links_in classes) k None)

-- the class has members, which are ranks of circuits within the bounds
pub record HasMembers (b : Limits) (members : List ℕ) : Type 0 where
  pub some : 0 < length members
  pub listed : All (λ r. r < length (all_circuits b)) members

-- what a shard keeps of its classes fits the journal: their members are the journal's classes; each class has the fingerprint of its
-- members; each link leads to the last earlier class with the fingerprint; newest tells the last of all; and there is a key for each fingerprint
pub record IsHeldBy (s : ShardParts) (prints : List ℕ) (links : List (Option ℕ)) (members : List (List ℕ)) (newest : ℕ → Option ℕ) (keys : ℕ) : Type 0 where
  pub shard : IsShard s
  pub partition : AreClassesOf s.bounds s.journal members
  pub own_prints : (k r : ℕ) → k < length members → Contains (slice_index_or members k []) r → print_at s.bounds s.probe.seed r ≡ slice_index prints k
  pub linked : (k : ℕ) → k < length members → IsLastBelow prints (slice_index prints k) k (slice_index_or links k None)
  pub last : (print : ℕ) → IsLastBelow prints print (length members) (newest print)
  pub count : keys ≡ different_prints s

abbrev pub IsHeld : {S : Type 0} → ShardParts → List Class → IndexMap ℕ ℕ S → Type 0
IsHeld s classes newest = IsHeldBy s (prints_in classes) (links_in classes) (members_in classes) (get nat_eq newest) (index_map_len newest)

-- the class whose circuits are equivalent to the one with rank r, among those with a fingerprint; or none of these is
abbrev pub IsClassWith : Limits → List Class → ℕ → ℕ → Option ℕ → Type 0
IsClassWith b classes print r (Some k) = (k < length classes) × (slice_index (prints_in classes) k ≡ print) × AreEquivalentRanks b r (first_at classes k)
IsClassWith b classes print r None = (k : ℕ) → k < length classes → slice_index (prints_in classes) k ≡ print → AreEquivalentRanks b r (first_at classes k) → ⊥

-- the same among class number last and the earlier ones with its fingerprint
abbrev pub IsClassUpTo : Limits → List Class → ℕ → ℕ → Option ℕ → Type 0
IsClassUpTo b classes last r (Some k) = (k ≤ last) × (slice_index (prints_in classes) k ≡ slice_index (prints_in classes) last) × AreEquivalentRanks b r (first_at classes k)
IsClassUpTo b classes last r None = (k : ℕ) → k ≤ last → slice_index (prints_in classes) k ≡ slice_index (prints_in classes) last → AreEquivalentRanks b r (first_at classes k) → ⊥

-- there is a class with number k, its members rise, and r is none of them
pub record IsOpenTo (r : ℕ) (classes : List Class) (k : ℕ) : Type 0 where
  pub within : k < length classes
  pub rising : IsStrictlyIncreasing (members_at classes k)
  pub absent : Contains (members_at classes k) r → ⊥

-- journal and classes are as they were
pub record Keeps (journal journal' : List ℕ) (classes classes' : List Class) : Type 0 where
  pub entries : journal' ≡ journal
  pub prints : prints_in classes' ≡ prints_in classes
  pub links : links_in classes' ≡ links_in classes
  pub members : members_in classes' ≡ members_in classes

-- the journal has r at its end, and class k has it as one more member
pub record Joins (k r : ℕ) (journal journal' : List ℕ) (classes classes' : List Class) : Type 0 where
  pub entries : journal' ≡ journal ++ r ∷ []
  pub prints : prints_in classes' ≡ prints_in classes
  pub links : links_in classes' ≡ links_in classes
  pub class : List ℕ
  pub adds : AddsMember r (members_at classes k) class
  pub members : members_in classes' ≡ slice_set (members_in classes) k class

-- the journal has r at its end, and there is a class of it, with a link to the last one with its fingerprint, which it is now itself
pub record Opens {S : Type 0} (r print : ℕ) (journal journal' : List ℕ) (classes classes' : List Class) (newest newest' : IndexMap ℕ ℕ S) : Type 0 where
  pub entries : journal' ≡ journal ++ r ∷ []
  pub prints : prints_in classes' ≡ prints_in classes ++ print ∷ []
  pub links : links_in classes' ≡ links_in classes ++ get nat_eq newest print ∷ []
  pub members : members_in classes' ≡ members_in classes ++ (r ∷ []) ∷ []
  pub last : (p : ℕ) → get nat_eq newest' p ≡ (if nat_eq print p then Some (length classes) else get nat_eq newest p)
  pub keys : index_map_len newest' ≡ index_map_len newest + (if is_some (get nat_eq newest print) then 0 else 1)

-- one or the other, by the class that was found
abbrev pub Puts : {S : Type 0} → ℕ → ℕ → List ℕ → List ℕ → List Class → List Class → IndexMap ℕ ℕ S → IndexMap ℕ ℕ S → Option ℕ → Type 0
Puts r print journal journal' classes classes' newest newest' (Some k) = Joins k r journal journal' classes classes' × (newest' ≡ newest)
Puts r print journal journal' classes classes' newest newest' None = Opens r print journal journal' classes classes' newest newest'
