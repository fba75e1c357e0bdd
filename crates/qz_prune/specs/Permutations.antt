-- The permutations of few numbers, in the order in which they are gone through.
use Rattle.std.specs.Prelude.{ℕ, zero, suc, List, [], ◌∷◌, map, take, Contains, ◌↔◌}
use Rattle.std.specs.List.{flat_map}
use Rattle.qz_circ.specs.Circuit.{Limits}
use Rattle.qz_circ.specs.Relabellings.{IsPermutation}
use Rattle.qz_prune.specs.declared.relabelling.Relabelling.{Relabelling}

-- the permutations of 0, 1 and 2: the first leaves all, and the first two leave 2
unfoldable pub table : List (List ℕ)
table =
    (0 ∷ 1 ∷ 2 ∷ []) ∷ (1 ∷ 0 ∷ 2 ∷ []) ∷ (0 ∷ 2 ∷ 1 ∷ []) ∷
    (1 ∷ 2 ∷ 0 ∷ []) ∷ (2 ∷ 0 ∷ 1 ∷ []) ∷ (2 ∷ 1 ∷ 0 ∷ []) ∷ []

-- how many of them leave the numbers from n on
unfoldable pub count : ℕ → ℕ
count zero = 1
count (suc zero) = 1
count (suc (suc zero)) = 2
count (suc (suc (suc n))) = 6

-- names of qubits with names of parameters
abbrev pub with_params : List ℕ → List ℕ → Relabelling
with_params qubits params = record { qubits = qubits; params = params }

-- names of qubits with each of the first m names of parameters
abbrev pub with_each : ℕ → List ℕ → List Relabelling
with_each m qubits = map (with_params qubits) (take (count m) table)

-- the list has exactly the permutations of the qubits and of the parameters of the limits
pub record AreRelabellings (b : Limits) (all : List Relabelling) : Type 0 where
  pub exactly : (r : Relabelling) → Contains all r ↔ (IsPermutation b.q r.qubits × IsPermutation b.m r.params)
