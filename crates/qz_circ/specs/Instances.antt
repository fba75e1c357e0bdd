-- Instances of the circuits of rules in programs: qubits of the program stand for those of the rule, and values for parameters.
use Rattle.std.specs.Prelude.{◌≡◌, ◌≢◌, ℕ, ◌+◌, ◌<◌, ◌==◌, if◌then◌else◌, List, [], ◌∷◌, Option, Some, None, slice_index_or}
use Rattle.std.specs.List.{flat_map, AllByRecursion}
use Rattle.std.specs.Option.{unwrap_or}
use Rattle.qz_circ.specs.declared.binding.Binding.{Binding}
use Rattle.qz_circ.specs.declared.circuit.Expr.{Expr}
use Rattle.qz_circ.specs.declared.circuit.Expr.TheVariants.{Const, Plus, Minus, Sum}
use Rattle.qz_circ.specs.declared.circuit.Op.{Op}
use Rattle.qz_circ.specs.declared.circuit.Op.TheVariants.{H, X, Cx, Rz}
use Rattle.qz_circ.specs.declared.circuit.Inst.TheVariants.{H as ProgramH, X as ProgramX, Cx as ProgramCx, Rz as ProgramRz}
use Rattle.qz_circ.specs.Circuit.{Circuit}
use Rattle.qz_circ.specs.Exponent.{angle_value}
use Rattle.qz_circ.specs.ProgramLimits.{most_qubits}
use Rattle.qz_circ.specs.ProgramCircuits.{ProgramCircuit}

-- ---- instances

-- What a gate of a rule becomes, where f says what stands for its qubits and p what for its parameters. A rotation by 0 becomes no gate.
abbrev pub instance_gate : (ℕ → ℕ) → (ℕ → ℕ) → Op → ProgramCircuit
instance_gate f p (H t) = ProgramH (f t) ∷ []
instance_gate f p (X t) = ProgramX (f t) ∷ []
instance_gate f p (Cx c t) = ProgramCx (f c) (f t) ∷ []
instance_gate f p (Rz t e) = if angle_value p e == 0 then [] else ProgramRz (f t) (angle_value p e) ∷ []

-- each gate in order
unfoldable pub instance_of : (ℕ → ℕ) → (ℕ → ℕ) → Circuit → ProgramCircuit
instance_of f p c = flat_map (instance_gate f p) c

-- ---- bindings

-- what stands at this number, if anything does
abbrev pub slot : List (Option ℕ) → ℕ → Option ℕ
slot slots s = slice_index_or slots s None

-- the qubit that stands for a rule's; where none does, a number past those of all programs
abbrev pub qubit_of : Binding → ℕ → ℕ
qubit_of bind s = unwrap_or (slot bind.qubits s) (most_qubits + s)

-- the value of a parameter; where it has none, 0
abbrev pub param_of : Binding → ℕ → ℕ
param_of bind i = unwrap_or (slot bind.params i) 0

-- the instance of a circuit under a binding
abbrev pub bound_instance : Binding → Circuit → ProgramCircuit
bound_instance bind c = instance_of (qubit_of bind) (param_of bind) c

-- different qubits stand for different ones, and each value is below 512
pub record IsBinding (bind : Binding) : Type 0 where
  pub different : (s t w : ℕ) → slot bind.qubits s ≡ Some w → slot bind.qubits t ≡ Some w → s ≡ t
  pub below_circle : (i v : ℕ) → slot bind.params i ≡ Some v → v < 512

-- ---- what is bound

-- a qubit below q stands for this one
abbrev pub IsBoundBelow : ℕ → Binding → ℕ → Type 0
IsBoundBelow q bind s = (w : ℕ) × (w < q) × (slot bind.qubits s ≡ Some w)

-- the parameter has a value
abbrev pub HasValue : Binding → ℕ → Type 0
HasValue bind i = slot bind.params i ≢ None

-- qubits below q stand for those of the gate
abbrev pub QubitsBound : ℕ → Binding → Op → Type 0
QubitsBound q bind (H t) = IsBoundBelow q bind t
QubitsBound q bind (X t) = IsBoundBelow q bind t
QubitsBound q bind (Cx c t) = IsBoundBelow q bind c × IsBoundBelow q bind t
QubitsBound q bind (Rz t e) = IsBoundBelow q bind t

-- each parameter of the angle has a value
abbrev pub AngleBound : Binding → Expr → Type 0
AngleBound bind (Const t) = Unit {0}
AngleBound bind (Plus i) = HasValue bind i
AngleBound bind (Minus i) = HasValue bind i
AngleBound bind (Sum i j) = HasValue bind i × HasValue bind j

-- and so for a gate
abbrev pub ParamsBound : Binding → Op → Type 0
ParamsBound bind (H t) = Unit {0}
ParamsBound bind (X t) = Unit {0}
ParamsBound bind (Cx c t) = Unit {0}
ParamsBound bind (Rz t e) = AngleBound bind e

-- qubits below q stand for all qubits of the circuit, and all its parameters have values
abbrev pub IsBoundCircuit : ℕ → Binding → Circuit → Type 0
IsBoundCircuit q bind c = AllByRecursion (λ g. QubitsBound q bind g × ParamsBound bind g) c
