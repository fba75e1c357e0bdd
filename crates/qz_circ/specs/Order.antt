-- The order of gates and circuits, the list of all circuits within limits, and the rank of a circuit in it.
use Rattle.std.specs.Prelude.{ℕ, zero, suc, List, [], ◌∷◌, map, length, count_by, Bool, slice_index_or}
use Rattle.std.specs.List.{flat_map}
use Rattle.std.specs.declared.cmp.Ordering.{Ordering}
use Rattle.std.specs.Ordering.{nat_cmp, ordering_then, is_lt}
use Rattle.std.specs.Cmp.Lexicographic.{slice_cmp}
use Rattle.qz_circ.specs.declared.circuit.Expr.{Expr}
use Rattle.qz_circ.specs.declared.circuit.Expr.TheVariants.{Const, Plus, Minus, Sum}
use Rattle.qz_circ.specs.declared.circuit.Op.{Op}
use Rattle.qz_circ.specs.declared.circuit.Op.TheVariants.{H, X, Cx, Rz}
use Rattle.qz_circ.specs.Circuit.{Circuit, Limits, gates_of, below}

-- angles compare by kind, constants first, then parameters, negatives and sums; and then by their numbers
abbrev pub angle_key : Expr → List ℕ
angle_key (Const t) = 0 ∷ t ∷ []
angle_key (Plus i) = 1 ∷ i ∷ []
angle_key (Minus i) = 2 ∷ i ∷ []
angle_key (Sum i j) = 3 ∷ i ∷ j ∷ []

-- gates compare by kind, H first, then X, CX and rotations; then by their qubits; and rotations then by angle
abbrev pub gate_key : Op → List ℕ
gate_key (H t) = 0 ∷ t ∷ []
gate_key (X t) = 1 ∷ t ∷ []
gate_key (Cx c t) = 2 ∷ c ∷ t ∷ []
gate_key (Rz t e) = 3 ∷ t ∷ angle_key e

unfoldable pub gate_cmp : Op → Op → Ordering
gate_cmp f g = slice_cmp nat_cmp (gate_key f) (gate_key g)

-- a shorter circuit is earlier; of two that are equally long, the first different gate decides
unfoldable pub circuit_cmp : Circuit → Circuit → Ordering
circuit_cmp c d = ordering_then (nat_cmp (length c) (length d)) (slice_cmp gate_cmp c d)

-- the first circuit is earlier than the second
abbrev pub is_before : Circuit → Circuit → Bool
is_before c d = is_lt (circuit_cmp c d)

-- every circuit of k of these gates; where the gates are in order, so are the circuits
unfoldable pub circuits_of : List Op → ℕ → List Circuit
circuits_of gates zero = [] ∷ []
circuits_of gates (suc k) = flat_map (λ g. map (λ c. g ∷ c) (circuits_of gates k)) gates

-- every circuit within the limits, in order
unfoldable pub all_circuits : Limits → List Circuit
all_circuits b = flat_map (circuits_of (gates_of b)) (below (suc b.n))

-- how many circuits within the limits are earlier
unfoldable pub rank : Limits → Circuit → ℕ
rank b c = count_by (λ d. is_before d c) (all_circuits b)

-- the circuit with this rank: it has this place among all circuits in order
unfoldable pub circuit_at : Limits → ℕ → Circuit
circuit_at b r = slice_index_or (all_circuits b) r []
