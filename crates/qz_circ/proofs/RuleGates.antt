-- Gates of rules and of programs as gates of the one kind that the laws of counts speak of.
use Rattle.std.proofs.Common.{◌≡◌, ℕ, ◌==◌, ◌&&◌, ◌||◌, Bool, true, false, refl, arith}
use Rattle.std.specs.Prelude.{pos, negsuc, if◌then◌else◌}
use Rattle.qz_circ.specs.declared.circuit.Expr.{Expr}
use Rattle.qz_circ.specs.declared.circuit.Expr.TheVariants.{Const, Plus, Minus, Sum}
use Rattle.qz_circ.specs.declared.circuit.Op.{Op}
use Rattle.qz_circ.specs.declared.circuit.Op.TheVariants.{H, X, Cx, Rz}
use Rattle.qz_circ.specs.declared.circuit.Inst.{Inst}
use Rattle.qz_circ.specs.declared.circuit.Inst.TheVariants.{H as ProgramH, X as ProgramX, Cx as ProgramCx, Rz as ProgramRz}
use Rattle.qz_circ.specs.Circuit.{ActsBelow}
use Rattle.qz_circ.specs.ProgramCircuits.{IsProgramGate, program_entry}
use Rattle.qz_circ.specs.Exponent.{IsExponent, zero_exponent, angle_exponent, turn_of}
use Rattle.qz_circ.specs.Paths.{has_bit, flipped_state, way_if, entry}
use Rattle.qz_circ.proofs.SignedWays.{sign_of}
use Rattle.qz_circ.proofs.GateSteps.{mix, flip, flip_where, turn, Gate}
use Rattle.qz_circ.proofs.Through.{gate_ways, IsGate}

-- the gate of a rule
abbrev pub as_gate : Op → Gate
as_gate (H t) = record { kind = mix; control = t; target = t }
as_gate (X t) = record { kind = flip; control = t; target = t }
as_gate (Cx c t) = record { kind = flip_where; control = c; target = t }
as_gate (Rz t e) = record { kind = turn (angle_exponent e); control = t; target = t }

-- the gate of a program
abbrev pub as_program_gate : Inst → Gate
as_program_gate (ProgramH t) = record { kind = mix; control = t; target = t }
as_program_gate (ProgramX t) = record { kind = flip; control = t; target = t }
as_program_gate (ProgramCx c t) = record { kind = flip_where; control = c; target = t }
as_program_gate (ProgramRz t k) = record { kind = turn (turn_of k); control = t; target = t }

-- the sign of H
h_sign : (b : Bool) → (if b then negsuc 0 else pos 1) ≡ sign_of b
h_sign true = refl
h_sign false = refl

-- the ways through the gate of a rule
pub entry_ways : (g : Op) → entry g ≡ gate_ways (as_gate g)
unfolding entry gate_ways
entry_ways (H t) = λ d i k. way_if (i == k || i == flipped_state t k) (h_sign (has_bit t i && has_bit t k) d) zero_exponent
entry_ways (X t) = refl
entry_ways (Cx c t) = refl
entry_ways (Rz t e) = refl

-- the ways through the gate of a program
pub program_entry_ways : (g : Inst) → program_entry g ≡ gate_ways (as_program_gate g)
unfolding program_entry gate_ways
program_entry_ways (ProgramH t) = entry_ways (H t)
program_entry_ways (ProgramX t) = entry_ways (X t)
program_entry_ways (ProgramCx c t) = entry_ways (Cx c t)
program_entry_ways (ProgramRz t k) = refl

-- the exponent of an angle is proper
pub angle_proper : (e : Expr) → IsExponent (angle_exponent e)
angle_proper (Const t) = omega arith
angle_proper (Plus i) = omega arith
angle_proper (Minus i) = omega arith
angle_proper (Sum i j) = omega arith

-- a gate of a rule that acts on qubits below q is a gate on q qubits
pub gate_is : (q : ℕ) (g : Op) → ActsBelow q g → IsGate q (as_gate g)
gate_is q (H t) acts = record { within = acts; right = tt }
gate_is q (X t) acts = record { within = acts; right = tt }
gate_is q (Cx c t) acts = record { within = acts.1; right = acts.2 }
gate_is q (Rz t e) acts = record { within = acts; right = angle_proper e }

-- and so is a gate of a program
pub program_gate_is : (q : ℕ) (g : Inst) → IsProgramGate q g → IsGate q (as_program_gate g)
program_gate_is q (ProgramH t) acts = record { within = acts; right = tt }
program_gate_is q (ProgramX t) acts = record { within = acts; right = tt }
program_gate_is q (ProgramCx c t) acts = record { within = acts.1; right = acts.2 }
program_gate_is q (ProgramRz t k) acts = record { within = acts.0; right = omega arith }
