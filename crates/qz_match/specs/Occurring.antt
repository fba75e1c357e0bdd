-- The qubits and the parameters of one side of a rule that occur in the other.
use Rattle.std.specs.Prelude.{◌&&◌, Bool}
use Rattle.std.specs.List.{list_any, list_all, flat_map}
use Rattle.qz_circ.specs.declared.circuit.Expr.{Expr}
use Rattle.qz_circ.specs.declared.circuit.Op.{Op}
use Rattle.qz_circ.specs.Circuit.{Circuit}
use Rattle.qz_circ.specs.Places.{rule_qubits_of, params_of, params_of_angle, is_listed}

-- each qubit of the gate is one of the circuit's
abbrev pub qubits_occur : Circuit → Op → Bool
qubits_occur left f = list_all (λ s. list_any (λ g. is_listed (rule_qubits_of g) s) left) (rule_qubits_of f)

-- each parameter of the angle is one of the circuit's
abbrev pub params_occur : Circuit → Expr → Bool
params_occur left e = list_all (λ i. list_any (λ g. is_listed (params_of g) i) left) (params_of_angle e)

-- and so for a gate
abbrev pub gate_params_occur : Circuit → Op → Bool
gate_params_occur left f = list_all (λ i. list_any (λ g. is_listed (params_of g) i) left) (params_of f)

-- each qubit and each parameter of right occurs in left
abbrev pub occur_in : Circuit → Circuit → Bool
occur_in left right =
    list_all (is_listed (flat_map rule_qubits_of left)) (flat_map rule_qubits_of right) &&
    list_all (is_listed (flat_map params_of left)) (flat_map params_of right)
