-- Gates before and after those that are brought together, by the qubits that the selected and the later gates have touched so far.
use Rattle.std.specs.Prelude.{ℕ, ◌||◌, Bool, true, false, if◌then◌else◌, List, [], ◌∷◌}
use Rattle.std.specs.List.{list_any}
use Rattle.qz_circ.specs.declared.circuit.Inst.{Inst}
use Rattle.qz_circ.specs.Gathering.{qubits_of, is_on}
use Rattle.qz_circ.specs.Paths.{has_bit}
use Rattle.qz_circ.specs.ProgramCircuits.{ProgramCircuit}

-- the qubits that are set in these bits
abbrev pub qubits_in : ℕ → ℕ → Bool
qubits_in bits w = has_bit w bits

-- one of the gate's qubits is touched
abbrev pub is_touched : (ℕ → Bool) → Inst → Bool
is_touched touched g = list_any touched (qubits_of g)

-- and after it all of them are
abbrev pub touched_by : (ℕ → Bool) → Inst → ℕ → Bool
touched_by touched g w = touched w || is_on w g

-- the gates that aren't selected and have no touched qubit; all others touch their qubits
unfoldable pub before_by : (ℕ → Bool) → List (Bool × Inst) → ProgramCircuit
before_by touched [] = []
before_by touched ((true, g) ∷ rest) = before_by (touched_by touched g) rest
before_by touched ((false, g) ∷ rest) = if is_touched touched g then before_by (touched_by touched g) rest else g ∷ before_by touched rest

-- those that have one
unfoldable pub after_by : (ℕ → Bool) → List (Bool × Inst) → ProgramCircuit
after_by touched [] = []
after_by touched ((true, g) ∷ rest) = after_by (touched_by touched g) rest
after_by touched ((false, g) ∷ rest) = if is_touched touched g then g ∷ after_by (touched_by touched g) rest else after_by touched rest
