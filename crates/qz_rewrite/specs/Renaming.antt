-- Rules whose qubits are renamed.
use Rattle.std.specs.Prelude.{ℕ, suc, ◌==◌, if◌then◌else◌, map}
use Rattle.qz_circ.specs.declared.circuit.Op.{Op}
use Rattle.qz_circ.specs.declared.circuit.Op.TheVariants.{H, X, Cx, Rz}
use Rattle.qz_circ.specs.Circuit.{Circuit}

-- qubit s becomes qubit s + 1, and that becomes s
abbrev pub exchanged : ℕ → ℕ → ℕ
exchanged s t = if t == s then suc s else if t == suc s then s else t

-- a gate with the two exchanged
abbrev pub renamed_gate : ℕ → Op → Op
renamed_gate s (H t) = H (exchanged s t)
renamed_gate s (X t) = X (exchanged s t)
renamed_gate s (Cx c t) = Cx (exchanged s c) (exchanged s t)
renamed_gate s (Rz t e) = Rz (exchanged s t) e

-- and a circuit
abbrev pub renamed : ℕ → Circuit → Circuit
renamed s c = map (renamed_gate s) c
