-- When one turn takes the matrix of a program to that of another.
use Rattle.std.specs.Prelude.{◌≡◌, ℕ, ◌+◌, ◌-◌, ◌^◌, ◌<◌}
use Rattle.qz_circ.specs.Exponent.{turn_of}
use Rattle.qz_circ.specs.Paths.{count, root2}
use Rattle.qz_circ.specs.ProgramCircuits.{ProgramCircuit, program_paths}

-- between the states j and i, t turns take the ways through c, times √2 as often as d says, to those through a
abbrev pub IsTurnedEntry : ℕ → ℕ → ℕ → ProgramCircuit → ProgramCircuit → ℕ → ℕ → Type 0
IsTurnedEntry q d t a c j i = (n : ℕ) → count (program_paths q a i j) (turn_of n) ≡ count (root2 d (program_paths q c i j)) (turn_of (n + (512 - t)))

-- they do so from state j to each one
unfoldable pub IsTurnedColumn : ℕ → ℕ → ℕ → ProgramCircuit → ProgramCircuit → ℕ → Type 0
IsTurnedColumn q d t a c j = (i : ℕ) → i < 2 ^ q → IsTurnedEntry q d t a c j i

-- and between each two states
abbrev pub IsTurnedMatrix : ℕ → ℕ → ℕ → ProgramCircuit → ProgramCircuit → Type 0
IsTurnedMatrix q d t a c = (j : ℕ) → j < 2 ^ q → IsTurnedColumn q d t a c j

-- some turn does so
abbrev pub HasTurn : ℕ → ℕ → ProgramCircuit → ProgramCircuit → Type 0
HasTurn q d a c = (t : ℕ) × (t < 512) × IsTurnedMatrix q d t a c
