-- Representatives, kept circuits and the class list.
use Rattle.std.specs.Prelude.{◌≡◌, ℕ, ◌-◌, ◌⊎◌, ◌↔◌, List, [], length, take, drop, filter, nat_lt, IsTrue, Contains}
use Rattle.std.specs.List.{AllZip}
use Rattle.std.specs.List.Sorted.{IsStrictlyIncreasing}
use Rattle.qz_circ.specs.Circuit.{Circuit, Limits, Within}
use Rattle.qz_circ.specs.Equivalence.{Equivalent}
use Rattle.qz_circ.specs.Order.{is_before, rank, circuit_at}

-- a circuit within the limits to which no earlier circuit within the limits is equivalent
pub record IsRepresentative (b : Limits) (c : Circuit) : Type 0 where
  pub within : Within b c
  pub first : (d : Circuit) → Within b d → IsTrue (is_before d c) → Equivalent b.q d c → ⊥

-- the circuit without its first gate, and the one without its last gate
abbrev pub without_first : Circuit → Circuit
without_first c = drop 1 c

abbrev pub without_last : Circuit → Circuit
without_last c = take (length c - 1) c

-- a circuit within the limits that is empty, or whose parts without the first and without the last gate are representatives
pub record IsKept (b : Limits) (c : Circuit) : Type 0 where
  pub within : Within b c
  pub parts : (c ≡ []) ⊎ (IsRepresentative b (without_first c) × IsRepresentative b (without_last c))

-- the list has exactly the numbers of which the fact holds, rising
pub record ListsExactly (P : ℕ → Type 0) (numbers : List ℕ) : Type 0 where
  pub rising : IsStrictlyIncreasing numbers
  pub exactly : (r : ℕ) → Contains numbers r ↔ P r

-- r is the rank of a representative
pub record IsRepresentativeRank (b : Limits) (r : ℕ) : Type 0 where
  pub circuit : Circuit
  pub representative : IsRepresentative b circuit
  pub ranked : rank b circuit ≡ r

-- s is the rank of a kept circuit that is equivalent to the representative with rank r
pub record IsMemberRank (b : Limits) (r s : ℕ) : Type 0 where
  pub representative : IsRepresentativeRank b r
  pub member : Circuit
  pub kept : IsKept b member
  pub ranked : rank b member ≡ s
  pub equivalent : Equivalent b.q member representative.circuit

-- For each representative in order, the kept circuits that are equivalent to it, in order, as ranks.
-- Lists of one circuit are left out.
pub record IsClassList (b : Limits) (classes : List (List ℕ)) : Type 0 where
  pub representatives : List ℕ
  pub lists : List (List ℕ)
  pub each_representative : ListsExactly (IsRepresentativeRank b) representatives
  pub each_list : AllZip (λ r list. ListsExactly (IsMemberRank b r) list) representatives lists
  pub several : classes ≡ filter (λ list. nat_lt 1 (length list)) lists

-- any two circuits whose ranks are in the list are equivalent
abbrev pub AreEquivalent : Limits → List ℕ → Type 0
AreEquivalent b list = (r s : ℕ) → Contains list r → Contains list s → Equivalent b.q (circuit_at b r) (circuit_at b s)

-- the members of each class are equivalent to each other
abbrev pub HasEquivalentMembers : Limits → List (List ℕ) → Type 0
HasEquivalentMembers b classes = (list : List ℕ) → Contains classes list → AreEquivalent b list
