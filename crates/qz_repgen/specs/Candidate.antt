-- Candidates: circuits by their parts without the first and without the last gate.
use Rattle.std.specs.Prelude.{◌≡◌, ℕ, ◌+◌, ◌*◌, ◌<◌, ◌≤◌, List, ◌++◌, length, Contains}
use Rattle.qz_circ.specs.Circuit.{Circuit, Limits, Within}
use Rattle.qz_circ.specs.Bounds.{gate_count}
use Rattle.qz_circ.specs.Order.{all_circuits, rank, circuit_at}
use Rattle.qz_circ.specs.Classes.{without_first, without_last, ListsExactly}

-- the numbers are ranks of circuits of one length, less than the limits allow
pub record AreOfOneLength (b : Limits) (ranks : List ℕ) : Type 0 where
  pub listed : (r : ℕ) → Contains ranks r → r < length (all_circuits b)
  pub short : (r : ℕ) → Contains ranks r → length (circuit_at b r) < b.n
  pub same : (r s : ℕ) → Contains ranks r → Contains ranks s → length (circuit_at b r) ≡ length (circuit_at b s)

-- r is the rank of a circuit within the limits that isn't empty, and whose parts without the first and without the last
-- gate have ranks in the list
pub record IsCandidate (b : Limits) (parts : List ℕ) (r : ℕ) : Type 0 where
  pub circuit : Circuit
  pub within : Within b circuit
  pub some : 0 < length circuit
  pub ranked : rank b circuit ≡ r
  pub first : Contains parts (rank b (without_first circuit))
  pub last : Contains parts (rank b (without_last circuit))

-- r is among the ranks of the circuit with rank s with one gate more at its end
abbrev pub IsInRow : Limits → ℕ → ℕ → Type 0
IsInRow b s r = (s * gate_count b < r) × (r ≤ s * gate_count b + gate_count b)

-- new is old with the candidates that are the circuit with rank s with one gate more at its end
pub record AddsRow (b : Limits) (parts : List ℕ) (s : ℕ) (old new : List ℕ) : Type 0 where
  pub row : List ℕ
  pub exactly : ListsExactly (λ r. IsCandidate b parts r × IsInRow b s r) row
  pub last : new ≡ old ++ row
