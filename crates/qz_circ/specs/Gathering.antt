-- Gates of a program that are picked out by their positions: which of the others stand before or after them once they are
-- brought together, whether they can be, and what the program is with others in their place.
use Rattle.std.specs.Prelude.{ℕ, suc, ◌==◌, ◌&&◌, ◌||◌, Bool, true, false, not, if◌then◌else◌, List, [], ◌∷◌, ◌++◌, length, drop}
use Rattle.std.specs.List.{list_any}
use Rattle.qz_circ.specs.declared.circuit.Inst.{Inst}
use Rattle.qz_circ.specs.declared.circuit.Inst.TheVariants.{H, X, Cx, Rz}
use Rattle.qz_circ.specs.ProgramCircuits.{ProgramCircuit}

-- ---- common qubits

-- the qubits of a gate, a control before its target
abbrev pub qubits_of : Inst → List ℕ
qubits_of (H t) = t ∷ []
qubits_of (X t) = t ∷ []
qubits_of (Cx c t) = c ∷ t ∷ []
qubits_of (Rz t k) = t ∷ []

-- the gate is on this qubit
abbrev pub is_on : ℕ → Inst → Bool
is_on w g = list_any (λ v. v == w) (qubits_of g)

-- two gates have a common qubit
abbrev pub shares : Inst → Inst → Bool
shares f g = list_any (λ w. is_on w g) (qubits_of f)

-- the gate has a common qubit with one of these
abbrev pub meets : Inst → ProgramCircuit → Bool
meets g gates = list_any (λ f. shares g f) gates

-- ---- positions

-- The gates up to the last of the rising positions, each with whether it is selected, where c holds the gates from position i on.
unfoldable pub marked : ℕ → List ℕ → ProgramCircuit → List (Bool × Inst)
marked i [] c = []
marked i (p ∷ ps) [] = []
marked i (p ∷ ps) (g ∷ c) = if p == i then (true, g) ∷ marked (suc i) ps c else (false, g) ∷ marked (suc i) (p ∷ ps) c

-- the selected gates in order
unfoldable pub selected : List (Bool × Inst) → ProgramCircuit
selected [] = []
selected ((true, g) ∷ rest) = g ∷ selected rest
selected ((false, g) ∷ rest) = selected rest

-- ---- before and after

-- a gate that isn't selected comes after the selected ones where it shares a qubit with an earlier selected gate or with an
-- earlier one that comes after them
abbrev pub is_after : ProgramCircuit → ProgramCircuit → Inst → Bool
is_after chosen after g = meets g chosen || meets g after

-- No selected gate shares a qubit with an earlier gate that comes after them. These gates were chosen, and these come after
-- them, before the gates that are marked here.
unfoldable pub gathers : ProgramCircuit → ProgramCircuit → List (Bool × Inst) → Bool
gathers chosen after [] = true
gathers chosen after ((true, g) ∷ rest) = not (meets g after) && gathers (chosen ++ g ∷ []) after rest
gathers chosen after ((false, g) ∷ rest) = if is_after chosen after g then gathers chosen (after ++ g ∷ []) rest else gathers chosen after rest

-- the gates that aren't selected and come before the selected ones
unfoldable pub before_of : ProgramCircuit → ProgramCircuit → List (Bool × Inst) → ProgramCircuit
before_of chosen after [] = []
before_of chosen after ((true, g) ∷ rest) = before_of (chosen ++ g ∷ []) after rest
before_of chosen after ((false, g) ∷ rest) = if is_after chosen after g then before_of chosen (after ++ g ∷ []) rest else g ∷ before_of chosen after rest

-- those that come after them
unfoldable pub after_of : ProgramCircuit → ProgramCircuit → List (Bool × Inst) → ProgramCircuit
after_of chosen after [] = []
after_of chosen after ((true, g) ∷ rest) = after_of (chosen ++ g ∷ []) after rest
after_of chosen after ((false, g) ∷ rest) = if is_after chosen after g then g ∷ after_of chosen (after ++ g ∷ []) rest else after_of chosen after rest

-- ---- replacing

-- the program with new gates in place of those at the rising positions: the gates that come before, among them all before the
-- first position; the new gates; the gates that come after; and those behind the last position
unfoldable pub replaced_at : List ℕ → ProgramCircuit → ProgramCircuit → ProgramCircuit
replaced_at ps new c =
    before_of [] [] (marked 0 ps c) ++ new ++ after_of [] [] (marked 0 ps c) ++ drop (length (marked 0 ps c)) c
