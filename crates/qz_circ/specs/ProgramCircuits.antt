-- Circuits of programs: which there are, what they mean, when two are the same unitary up to a phase, and their order.
-- They differ from those of rules in their angles, which are whole numbers of 512ths of a full circle.
use Rattle.std.specs.Prelude.{◌≡◌, ◌≢◌, ℕ, ◌+◌, ◌<◌, ◌≤◌, Bool, true, false, List, [], ◌∷◌, length, count_by, slice_index_or}
use Rattle.std.specs.List.{AllByRecursion}
use Rattle.std.specs.declared.cmp.Ordering.{Ordering}
use Rattle.std.specs.Ordering.{nat_cmp, ordering_then}
use Rattle.std.specs.Cmp.Lexicographic.{slice_cmp}
use Rattle.qz_circ.specs.declared.circuit.Inst.{Inst}
use Rattle.qz_circ.specs.declared.circuit.Inst.TheVariants.{H, X, Cx, Rz}
use Rattle.qz_circ.specs.declared.circuit.Op.TheVariants.{H as RuleH, X as RuleX, Cx as RuleCx}
use Rattle.qz_circ.specs.ProgramLimits.{most_qubits}
use Rattle.qz_circ.specs.Exponent.{Exponent, turn_of}
use Rattle.qz_circ.specs.Paths.{Ways, entry, rotation_ways, ways_along, root2}
use Rattle.qz_circ.specs.Equivalence.{SameUpTo}

-- gates from left to right, as they are applied
abbrev pub ProgramCircuit : Type 0
ProgramCircuit = List Inst

-- the gate acts on qubits below q, and on two different ones where it acts on two; its angle is from 1 to 511
abbrev pub IsProgramGate : ℕ → Inst → Type 0
IsProgramGate q (H t) = t < q
IsProgramGate q (X t) = t < q
IsProgramGate q (Cx c t) = (c < q) × (t < q) × (c ≢ t)
IsProgramGate q (Rz t k) = (t < q) × (1 ≤ k) × (k < 512)

-- such gates on q qubits, of which there are at most 64, and perhaps none
pub record IsProgramCircuit (q : ℕ) (c : ProgramCircuit) : Type 0 where
  pub few : q ≤ most_qubits
  pub gates : AllByRecursion (IsProgramGate q) c

-- the ways through one gate: those of the same gate of a rule; the exponent of angle k is k turns
unfoldable pub program_entry : Inst → Ways
program_entry (H t) = entry (RuleH t)
program_entry (X t) = entry (RuleX t)
program_entry (Cx c t) = entry (RuleCx c t)
program_entry (Rz t k) = rotation_ways t (turn_of k)

-- the ways through the gates of a circuit on q qubits
unfoldable pub program_paths : ℕ → ProgramCircuit → Ways
program_paths q c = ways_along program_entry q c

-- the gate is H, which owes a factor 1/√2
abbrev pub is_program_h : Inst → Bool
is_program_h (H t) = true
is_program_h (X t) = false
is_program_h (Cx c t) = false
is_program_h (Rz t k) = false

-- how many gates are H
abbrev pub program_halves : ProgramCircuit → ℕ
program_halves c = count_by is_program_h c

-- the ways through the circuit, times √2 for each H of another one
unfoldable pub scaled_program_ways : ℕ → ProgramCircuit → ProgramCircuit → Ways
scaled_program_ways q c other i j = root2 (program_halves other) (program_paths q c i j)

-- the same unitary up to a phase: some monomial takes the second circuit on q qubits to the first
abbrev pub EquivalentProgramCircuits : ℕ → ProgramCircuit → ProgramCircuit → Type 0
EquivalentProgramCircuits q a c = (u : Exponent) × SameUpTo q u (scaled_program_ways q a c) (scaled_program_ways q c a)

-- ---- costs and order

-- the most that a gate may weigh
abbrev pub most_weight : ℕ
most_weight = 100

-- a gate weighs from 1 to 100
abbrev pub IsWeight : ℕ → Type 0
IsWeight w = (1 ≤ w) × (w ≤ most_weight)

-- four weights: those of H, X, CX and rotations
pub record AreWeights (ws : List ℕ) : Type 0 where
  pub count : length ws ≡ 4
  pub each : AllByRecursion IsWeight ws

-- each gate weighs 1
abbrev pub ones : List ℕ
ones = 1 ∷ 1 ∷ 1 ∷ 1 ∷ []

-- what a gate weighs, by its kind
abbrev pub weight : List ℕ → Inst → ℕ
weight ws (H t) = slice_index_or ws 0 1
weight ws (X t) = slice_index_or ws 1 1
weight ws (Cx c t) = slice_index_or ws 2 1
weight ws (Rz t k) = slice_index_or ws 3 1

-- what a circuit costs: the sum of the weights of its gates
unfoldable pub cost : List ℕ → ProgramCircuit → ℕ
cost ws [] = 0
cost ws (g ∷ c) = weight ws g + cost ws c

-- gates compare by kind, H first, then X, CX and rotations; then by their qubits; and rotations then by angle
abbrev pub program_gate_key : Inst → List ℕ
program_gate_key (H t) = 0 ∷ t ∷ []
program_gate_key (X t) = 1 ∷ t ∷ []
program_gate_key (Cx c t) = 2 ∷ c ∷ t ∷ []
program_gate_key (Rz t k) = 3 ∷ t ∷ k ∷ []

unfoldable pub program_gate_cmp : Inst → Inst → Ordering
program_gate_cmp f g = slice_cmp nat_cmp (program_gate_key f) (program_gate_key g)

-- a cheaper circuit is earlier; of equally cheap ones a shorter one; and then the first different gate decides
unfoldable pub program_cmp : List ℕ → ProgramCircuit → ProgramCircuit → Ordering
program_cmp ws c d =
    ordering_then (nat_cmp (cost ws c) (cost ws d)) (ordering_then (nat_cmp (length c) (length d)) (slice_cmp program_gate_cmp c d))
