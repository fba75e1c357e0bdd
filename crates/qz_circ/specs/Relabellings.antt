-- Circuits with their qubits and parameters renamed. Own.
use Rattle.std.specs.Prelude.{◌≡◌, ◌≢◌, ℕ, ◌<◌, ◌≤◌, nat_lt, if◌then◌else◌, ◌⊎◌, List, map, length, slice_index}
use Rattle.qz_circ.specs.declared.circuit.Expr.{Expr}
use Rattle.qz_circ.specs.declared.circuit.Expr.TheVariants.{Const, Plus, Minus, Sum}
use Rattle.qz_circ.specs.declared.circuit.Op.{Op}
use Rattle.qz_circ.specs.declared.circuit.Op.TheVariants.{H, X, Cx, Rz}
use Rattle.qz_circ.specs.Circuit.{Circuit, Limits}
use Rattle.qz_circ.specs.Order.{circuit_at}
use Rattle.qz_circ.specs.Pairs.{Pair}

-- The new names of 0, 1 and 2, of which those from n on keep theirs: a permutation of the numbers below n, which is at most 3.
pub record IsPermutation (n : ℕ) (names : List ℕ) : Type 0 where
  pub three : length names ≡ 3
  pub within : (k : ℕ) → k < 3 → slice_index names k < 3
  pub different : (i k : ℕ) → i < k → k < 3 → slice_index names i ≢ slice_index names k
  pub others : (k : ℕ) → n ≤ k → k < 3 → slice_index names k ≡ k

-- an angle with its parameters renamed, the smaller number of a sum first
abbrev pub renamed_angle : List ℕ → Expr → Expr
renamed_angle params (Const t) = Const t
renamed_angle params (Plus i) = Plus (slice_index params i)
renamed_angle params (Minus i) = Minus (slice_index params i)
renamed_angle params (Sum i j) =
    if nat_lt (slice_index params i) (slice_index params j)
    then Sum (slice_index params i) (slice_index params j)
    else Sum (slice_index params j) (slice_index params i)

-- a gate with its qubits and parameters renamed
abbrev pub renamed_gate : List ℕ → List ℕ → Op → Op
renamed_gate qubits params (H t) = H (slice_index qubits t)
renamed_gate qubits params (X t) = X (slice_index qubits t)
renamed_gate qubits params (Cx c t) = Cx (slice_index qubits c) (slice_index qubits t)
renamed_gate qubits params (Rz t e) = Rz (slice_index qubits t) (renamed_angle params e)

-- and so each gate of a circuit
abbrev pub renamed : List ℕ → List ℕ → Circuit → Circuit
renamed qubits params c = map (renamed_gate qubits params) c

-- by these names the two circuits of the pair become x and y, in either order
abbrev pub Renames : Limits → List ℕ → List ℕ → Pair → Circuit → Circuit → Type 0
Renames b qubits params pair x y =
    ((renamed qubits params (circuit_at b pair.first) ≡ x) × (renamed qubits params (circuit_at b pair.later) ≡ y)) ⊎
    ((renamed qubits params (circuit_at b pair.first) ≡ y) × (renamed qubits params (circuit_at b pair.later) ≡ x))

-- some permutations of the qubits and parameters of the limits make of the pair the circuits x and y, in either order
pub record IsRelabelled (b : Limits) (pair : Pair) (x y : Circuit) : Type 0 where
  pub qubits : List ℕ
  pub params : List ℕ
  pub permutes_qubits : IsPermutation b.q qubits
  pub permutes_params : IsPermutation b.m params
  pub renames : Renames b qubits params pair x y
