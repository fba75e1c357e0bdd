-- Walks over the gates of a left side, along its qubits from its first gate.
use Rattle.std.specs.Prelude.{◌≡◌, ℕ, ◌<◌, Bool, true, false, List, [], ◌∷◌, length, Some, slice_index_or}
use Rattle.std.specs.List.{slice_get}
use Rattle.qz_circ.specs.declared.circuit.Op.{Op}
use Rattle.qz_circ.specs.declared.circuit.Op.TheVariants.{H}
use Rattle.qz_circ.specs.Circuit.{Circuit}
use Rattle.qz_circ.specs.Places.{rule_qubits_of, is_listed}
use Rattle.qz_match.specs.declared.walk.Step.{Step}
use Rattle.qz_match.specs.Neighbours.{AreNeighbours}

-- the gate at a position
abbrev pub rule_gate_at : Circuit → ℕ → Op
rule_gate_at left x = slice_index_or left x (H 0)

-- the gate of a rule is on the qubit
abbrev pub acts_on : ℕ → Op → Bool
acts_on s f = is_listed (rule_qubits_of f) s

-- so is the gate at this position
abbrev pub acts_at : Circuit → ℕ → ℕ → Bool
acts_at left s x = acts_on s (rule_gate_at left x)

-- neighbours, the second one behind the first or before it
abbrev pub AreBeside : Bool → (ℕ → Bool) → ℕ → ℕ → ℕ → Type 0
AreBeside true passes n p q = AreNeighbours passes n p q
AreBeside false passes n p q = AreNeighbours passes n q p

-- the step leads along a qubit of its first gate to a neighbour on it
pub record IsStep (left : Circuit) (step : Step) : Type 0 where
  pub qubit : ℕ
  pub operand : slice_get (rule_qubits_of (rule_gate_at left step.from)) step.operand ≡ Some qubit
  pub beside : AreBeside step.forward (acts_at left qubit) (length left) step.from step.to

-- the gates that are reached: those that were, and the ends of the steps
abbrev pub reached : List ℕ → List Step → List ℕ
reached seen [] = seen
reached seen (step ∷ steps) = reached (step.to ∷ seen) steps

-- each step starts at a gate that is reached, and none leads to the first gate
abbrev pub Follows : Circuit → List ℕ → List Step → Type 0
Follows left seen [] = Unit {0}
Follows left seen (step ∷ steps) = IsStep left step × (is_listed seen step.from ≡ true) × (0 < step.to) × Follows left (step.to ∷ seen) steps

-- from the first gate the steps reach all gates
pub record IsWalk (left : Circuit) (steps : List Step) : Type 0 where
  pub follows : Follows left (0 ∷ []) steps
  pub whole : (i : ℕ) → i < length left → is_listed (reached (0 ∷ []) steps) i ≡ true

-- any two neighbours on a qubit are both seen, or neither is
abbrev pub AgreesUpTo : Circuit → List Bool → ℕ → Type 0
AgreesUpTo left seen n = (i j s : ℕ) → j < n → AreNeighbours (acts_at left s) (length left) i j → slice_index_or seen i false ≡ slice_index_or seen j false

-- so it is where the second one has the qubit as this operand
abbrev pub AgreesAt : Circuit → List Bool → ℕ → ℕ → Type 0
AgreesAt left seen j o = (i s : ℕ) → slice_get (rule_qubits_of (rule_gate_at left j)) o ≡ Some s → AreNeighbours (acts_at left s) (length left) i j → slice_index_or seen i false ≡ slice_index_or seen j false

-- the step leads from a gate that is seen to one that isn't
pub record LeadsOn (left : Circuit) (seen : List Bool) (step : Step) : Type 0 where
  pub lawful : IsStep left step
  pub from_seen : slice_index_or seen step.from false ≡ true
  pub to_unseen : slice_index_or seen step.to false ≡ false
