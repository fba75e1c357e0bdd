-- Tables of rules: left sides, each with its right sides, which are given by their numbers among some circuits.
use Rattle.std.specs.Prelude.{◌≡◌, ℕ, ◌<◌, ◌≤◌, ◌↔◌, ◌⊎◌, ◌++◌, ◌∷◌, [], true, List, length, Contains}
use Rattle.std.specs.List.{AllByRecursion, flat_map}
use Rattle.qz_circ.specs.Circuit.{Circuit, IsOn}
use Rattle.qz_circ.specs.Places.{is_usable}
use Rattle.qz_circ.specs.ProgramCircuits.{ProgramCircuit, IsProgramGate}
use Rattle.qz_circ.specs.Replacement.{numbered, children_by}
use Rattle.qz_match.specs.Walks.{IsWalk}
use Rattle.qz_search.specs.declared.table.Side.{Side}
use Rattle.qz_search.specs.Circuits.{IsLonger}
use Rattle.qz_circ.specs.ProgramLimits.{most_qubits}

-- both sides are circuits of at most 6 gates on three qubits, and the rule is usable
pub record IsRule (left right : Circuit) : Type 0 where
  pub left_on : IsOn 3 3 left
  pub right_on : IsOn 3 3 right
  pub left_short : length left ≤ 6
  pub right_short : length right ≤ 6
  pub usable : is_usable left right ≡ true

-- programs become the same ones in both ways, in whichever order
abbrev pub AreAlike : (ProgramCircuit → List ProgramCircuit) → (ProgramCircuit → List ProgramCircuit) → Type 0
AreAlike f g = (c : ProgramCircuit) → AllByRecursion (IsProgramGate most_qubits) c → (x : ProgramCircuit) → Contains (f c) x ↔ Contains (g c) x

-- what a program becomes by a left side, with the circuit of each of these numbers in its place
abbrev pub children_by_numbers : List Circuit → Circuit → List ℕ → ProgramCircuit → List ProgramCircuit
children_by_numbers circuits left rights c = flat_map (λ k. children_by left (numbered circuits k) c) rights

-- by a left side with its right sides
abbrev pub children_of : List Circuit → Side → ProgramCircuit → List ProgramCircuit
children_of circuits side c = children_by_numbers circuits side.left.items side.rights.items c

-- and by several
abbrev pub children_of_all : List Circuit → List Side → ProgramCircuit → List ProgramCircuit
children_of_all circuits sides c = flat_map (λ side. children_of circuits side c) sides

-- the number is that of a circuit, which is a right side of this left one
abbrev pub IsRight : List Circuit → Circuit → ℕ → Type 0
IsRight circuits left k = (k < length circuits) × IsRule left (numbered circuits k)

-- the walk leads through the left side, and the right sides are usable with it
pub record IsSide (circuits : List Circuit) (side : Side) : Type 0 where
  pub some : 0 < length side.left.items
  pub short : length side.left.items ≤ 6
  pub on : IsOn 3 3 side.left.items
  pub walk : IsWalk side.left.items side.walk
  pub rights : AllByRecursion (IsRight circuits side.left.items) side.rights.items

-- programs become by these sides what they become in this way, in whichever order
pub record IsTable (circuits : List Circuit) (sides : List Side) (children : ProgramCircuit → List ProgramCircuit) : Type 0 where
  pub each : AllByRecursion (IsSide circuits) sides
  pub alike : AreAlike (children_of_all circuits sides) children

-- circuits by their numbers, and left sides with the numbers of their right sides
pub record TableParts : Type 0 where
  pub circuits : List Circuit
  pub sides : List Side

-- what a program becomes by one step with the table
abbrev pub children_by_table : TableParts → ProgramCircuit → List ProgramCircuit
children_by_table table c = children_of_all table.circuits table.sides c

-- the circuit got a number, which was put behind others, if the rule is usable; else nothing comes by the rule
pub record IsRightAdded (left right : Circuit) (old new : List Circuit) (before after : List ℕ) : Type 0 where
  pub longer : IsLonger old new
  pub added : ((after ≡ before) × ((c : ProgramCircuit) → children_by left right c ≡ [])) ⊎ ((k : ℕ) × (after ≡ before ++ k ∷ []) × (numbered new k ≡ right) × IsRight new left k)

-- the right sides of a left one, with what programs become by them
pub record AreRights (circuits : List Circuit) (left : Circuit) (rights : List ℕ) (children : ProgramCircuit → List ProgramCircuit) : Type 0 where
  pub each : AllByRecursion (IsRight circuits left) rights
  pub same : (c : ProgramCircuit) → AllByRecursion (IsProgramGate most_qubits) c → children_by_numbers circuits left rights c ≡ children c

-- the last side, which has this left side, is gone
pub record IsTwinTaken (left : Circuit) (rights : List ℕ) (old new : List Side) : Type 0 where
  pub side : Side
  pub left_is : side.left.items ≡ left
  pub rights_are : side.rights.items ≡ rights
  pub parts : old ≡ new ++ side ∷ []

-- the right sides of some last sides with this left side were put behind others
pub record AreTwinsTaken (left : Circuit) (before after : List ℕ) (old new : List Side) : Type 0 where
  pub each : (circuits : List Circuit) → AllByRecursion (IsSide circuits) old → AllByRecursion (IsSide circuits) new
  pub rights : (circuits : List Circuit) → AllByRecursion (IsSide circuits) old → AllByRecursion (IsRight circuits left) before → AllByRecursion (IsRight circuits left) after
  pub alike : (circuits : List Circuit) → AreAlike (λ c. children_of_all circuits old c ++ children_by_numbers circuits left before c) (λ c. children_of_all circuits new c ++ children_by_numbers circuits left after c)
  pub fewer : length new ≤ length old
