-- Renamings of the qubits of rules.
use Rattle.std.specs.Prelude.{ℕ, Bool, if◌then◌else◌, map}
use Rattle.qz_circ.specs.declared.circuit.Op.{Op}
use Rattle.qz_circ.specs.Circuit.{Circuit}
use Rattle.qz_rewrite.specs.Renaming.{renamed_gate}
use Rattle.qz_search.specs.declared.renaming.Renaming.{Renaming}

-- a gate with qubits s and s + 1 exchanged, where that is said
abbrev pub exchanged_where : Bool → ℕ → Op → Op
exchanged_where said s g = if said then renamed_gate s g else g

-- a gate with its qubits renamed: the first two of them are exchanged or not, then the last two, then the first two again
abbrev pub gate_by : Renaming → Op → Op
gate_by r g = exchanged_where r.again 0 (exchanged_where r.last 1 (exchanged_where r.first 0 g))

-- and a circuit
abbrev pub circuit_by : Renaming → Circuit → Circuit
circuit_by r c = map (gate_by r) c
