-- Flags of the qubits that gates are on, and how a gate passes them while positions are gathered.
use Rattle.std.specs.Prelude.{◌≡◌, ℕ, ◌&&◌, Bool, List, ◌∷◌, slice_index_or, false}
use Rattle.std.specs.List.{list_any}
use Rattle.qz_circ.specs.declared.circuit.Inst.{Inst}
use Rattle.qz_circ.specs.Gathering.{qubits_of, is_on, gathers}
use Rattle.qz_circ.specs.ProgramCircuits.{ProgramCircuit}

-- a flag is set where one of the gates is on its qubit
pub record AreFlagsOf (flags : List Bool) (gates : ProgramCircuit) : Type 0 where
  pub each : (w : ℕ) → slice_index_or flags w false ≡ list_any (is_on w) gates

-- a flag of one of the gate's qubits is set
abbrev pub is_flagged : List Bool → Inst → Bool
is_flagged flags g = list_any (λ w. slice_index_or flags w false) (qubits_of g)

-- What gathering goes on with after one gate: it fails there, or goes on with the flags of the chosen gates and of those that
-- come after them.
pub record Passes (selected : Bool) (g : Inst) (chosen after : ProgramCircuit) (chosen_flags after_flags : List Bool) (goes_on : Bool) : Type 0 where
  pub chosen_next : ProgramCircuit
  pub after_next : ProgramCircuit
  pub chosen_flagged : AreFlagsOf chosen_flags chosen_next
  pub after_flagged : AreFlagsOf after_flags after_next
  pub same : (rest : List (Bool × Inst)) → gathers chosen after ((selected, g) ∷ rest) ≡ (goes_on && gathers chosen_next after_next rest)
