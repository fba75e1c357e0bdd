-- What a program becomes by a rule at one of its places, and all that it becomes by one step with a list of classes.
use Rattle.std.specs.Prelude.{ℕ, ◌==◌, not, List, [], map, filter, length, slice_index_or}
use Rattle.std.specs.List.{flat_map}
use Rattle.qz_circ.specs.Circuit.{Circuit, below}
use Rattle.qz_circ.specs.Gathering.{replaced_at}
use Rattle.qz_circ.specs.Instances.{bound_instance}
use Rattle.qz_circ.specs.Places.{PlaceParts, places}
use Rattle.qz_circ.specs.ProgramCircuits.{ProgramCircuit}

-- the program with the instance of right in place of the gates at the place
abbrev pub replaced : ProgramCircuit → Circuit → PlaceParts → ProgramCircuit
replaced c right place = replaced_at place.positions (bound_instance place.binding right) c

-- the program with right in place of left, at each place in order
unfoldable pub children_by : Circuit → Circuit → ProgramCircuit → List ProgramCircuit
children_by left right c = map (replaced c right) (places left right c)

-- the member with this number, counted from 0
abbrev pub numbered : List Circuit → ℕ → Circuit
numbered members k = slice_index_or members k []

-- with each ordered pair of members with different numbers, by the number of the left one and then of the right one
unfoldable pub children_in : List Circuit → ProgramCircuit → List ProgramCircuit
children_in members c =
    flat_map (λ i. flat_map (λ j. children_by (numbered members i) (numbered members j) c) (filter (λ j. not (j == i)) (below (length members)))) (below (length members))

-- all programs that come of one step, class by class in order
unfoldable pub children : List (List Circuit) → ProgramCircuit → List ProgramCircuit
children classes c = flat_map (λ members. children_in members c) classes
