-- When rules are sound: all members of a class are the same unitary up to a phase.
use Rattle.std.specs.Prelude.{ℕ, List}
use Rattle.std.specs.List.{AllByRecursion}
use Rattle.qz_circ.specs.Circuit.{Circuit, IsOn}
use Rattle.qz_circ.specs.Equivalence.{Equivalent}
use Rattle.qz_circ.specs.Replacement.{numbered}

-- each member is a circuit on n qubits with parameters below 3, and equivalent to the first one
abbrev pub IsSoundClass : ℕ → List Circuit → Type 0
IsSoundClass n members = AllByRecursion (λ a. IsOn n 3 a × Equivalent n (numbered members 0) a) members

-- and so for each class
abbrev pub AreSoundClasses : ℕ → List (List Circuit) → Type 0
AreSoundClasses n classes = AllByRecursion (IsSoundClass n) classes
