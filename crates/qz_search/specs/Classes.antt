-- The classes of rules as a search uses them: no circuit stands in one more than twice.
use Rattle.std.specs.Prelude.{◌≡◌, ℕ, ◌≤◌, ◌==◌, ◌⊎◌, ◌++◌, ◌∷◌, [], not, List, length, filter}
use Rattle.std.specs.List.{AllByRecursion, flat_map}
use Rattle.std.specs.Ordering.{eq_by_cmp}
use Rattle.qz_circ.specs.Circuit.{Circuit, IsOn, below}
use Rattle.qz_circ.specs.Order.{circuit_cmp}
use Rattle.qz_circ.specs.ProgramCircuits.{ProgramCircuit}
use Rattle.qz_circ.specs.Replacement.{numbered, children_by}

-- each is a circuit of at most 6 gates on three qubits
abbrev pub AreRuleSides : List Circuit → Type 0
AreRuleSides members = AllByRecursion (λ a. IsOn 3 3 a × (length a ≤ 6)) members

-- how often a circuit stands in a list
abbrev pub count_of : Circuit → List Circuit → ℕ
count_of a members = length (filter (eq_by_cmp circuit_cmp a) members)

-- a circuit is put behind others, unless it stands there twice
abbrev pub IsKept : List Circuit → List Circuit → Circuit → Type 0
IsKept old new c = ((new ≡ old) × (2 ≤ count_of c old)) ⊎ (new ≡ old ++ c ∷ [])

-- what a program becomes by the member with number i, with each of some others in its place
abbrev pub children_of_some : List Circuit → ℕ → List ℕ → ProgramCircuit → List ProgramCircuit
children_of_some members i others c =
    flat_map (λ j. children_by (numbered members i) (numbered members j) c) (filter (λ j. not (j == i)) others)

-- and with each other member
abbrev pub children_with : List Circuit → ℕ → ProgramCircuit → List ProgramCircuit
children_with members i c = children_of_some members i (below (length members)) c
