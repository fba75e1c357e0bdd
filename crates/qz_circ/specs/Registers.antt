-- Registers of programs.
use Rattle.std.specs.Prelude.{ℕ, List, map}
use Rattle.std.specs.List.{sum_by}

-- a register of qubits or of classical bits: the bytes of its name, and how many it has
pub record RegisterParts : Type 0 where
  pub name : List ℕ
  pub size : ℕ

-- the names of registers in order
abbrev pub names_of : List RegisterParts → List (List ℕ)
names_of registers = map (λ r. r.name) registers

-- how many qubits or bits they have together
abbrev pub total_size : List RegisterParts → ℕ
total_size registers = sum_by (λ r. r.size) registers
