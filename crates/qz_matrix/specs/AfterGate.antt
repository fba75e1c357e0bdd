-- What one gate makes of the entries of a matrix. A place is read as a state of twice as many qubits, of which the lower half are those of the row.
use Rattle.std.specs.Prelude.{◌≡◌, ℕ, ◌+◌, ◌*◌, ◌/◌, ◌%◌, ◌<◌, ◌≤◌, max, ◌==◌, Bool, true, if◌then◌else◌, Option, Some, None, List, [], ◌∷◌, length, ℤ, pos, ◌+ℤ◌, ◌-ℤ◌}
use Rattle.qz_circ.specs.declared.circuit.Op.{Op}
use Rattle.qz_circ.specs.declared.circuit.Op.TheVariants.{H, X, Cx, Rz}
use Rattle.qz_circ.specs.Exponent.{Exponent, angle_exponent}
use Rattle.qz_circ.specs.Paths.{has_bit, flipped_state}
use Rattle.qz_ring.specs.Exponent.{Exponent as Monomial, IsExponent as IsMonomial, zero_exponent, minus}
use Rattle.qz_ring.specs.Terms.{Terms, count, weight_of, largest_reach, reach_times}
use Rattle.qz_matrix.specs.Entries.{sum_at, WeightsAtMost, ReachesAtMost}

-- the exponent of a path sum as a monomial
abbrev pub monomial_of : Exponent → Monomial
monomial_of e = record { turn = e.turn; x0 = e.x0; x1 = e.x1; x2 = e.x2 }

-- what is counted at place k after the gate, where the sums counted this before it
abbrev pub count_after : Op → (ℕ → Monomial → ℤ) → ℕ → Monomial → ℤ
-- the sum with the place that has qubit t flipped, or the difference from it where the qubit is 1
count_after (H t) counts k e = if has_bit t k then counts (flipped_state t k) e -ℤ counts k e else counts k e +ℤ counts (flipped_state t k) e
-- that of the place with qubit t flipped
count_after (X t) counts k e = counts (flipped_state t k) e
-- that of the place with qubit t flipped where qubit c is 1, and else of its own
count_after (Cx c t) counts k e = counts (if has_bit c k then flipped_state t k else k) e
-- that of the same place, at the exponent less the angle's where qubit t is 1
count_after (Rz t angle) counts k e = counts k (if has_bit t k then minus e (monomial_of (angle_exponent angle)) else e)

-- what the sums count at each place
abbrev pub counts_of : List Terms → ℕ → Monomial → ℤ
counts_of sums k e = count (sum_at sums k) e

-- the sum is the one at place k after the gate; its weight is at most twice what it was anywhere, and its reach at most 1 more
pub record IsNext (op : Op) (old : List Terms) (k : ℕ) (sum : Terms) : Type 0 where
  pub counts : (e : Monomial) → IsMonomial e → count sum e ≡ count_after op (counts_of old) k e
  pub weight : (most : ℕ) → WeightsAtMost most old → weight_of sum ≤ 2 * most
  pub reach : (most : ℕ) → ReachesAtMost most old → largest_reach sum ≤ most + 1

-- the sums are those after the gate
pub record IsAfterGate (op : Op) (old new : List Terms) : Type 0 where
  pub size : length new ≡ length old
  pub each : (k : ℕ) → k < length old → IsNext op old k (sum_at new k)

-- with a place there is also the one with qubit t flipped
abbrev pub IsClosed : ℕ → ℕ → Type 0
IsClosed t size = (k : ℕ) → k < size → flipped_state t k < size

-- the gate acts on the state: it has no control, or its control is 1
abbrev pub is_chosen : Option ℕ → ℕ → Bool
is_chosen None k = true
is_chosen (Some c) k = has_bit c k

-- where the gate acts, each two sums whose places differ in the target are exchanged
pub record IsExchanged (control : Option ℕ) (target : ℕ) (old new : List Terms) : Type 0 where
  pub size : length new ≡ length old
  pub each : (k : ℕ) → k < length old → sum_at new k ≡ sum_at old (if is_chosen control k then flipped_state target k else k)

-- new is old, times the monomial if that is wanted
pub record IsShiftedWhere (wanted : Bool) (by : Monomial) (old new : Terms) : Type 0 where
  pub counts : (e : Monomial) → IsMonomial e → count new e ≡ count old (if wanted then minus e by else e)
  pub weight : weight_of new ≡ weight_of old
  pub reach : largest_reach new ≤ max (largest_reach old) (reach_times old by)

-- the place that is read for place m, where places i and j are exchanged if that is wanted
abbrev pub read_for : Bool → ℕ → ℕ → ℕ → ℕ
read_for wanted i j m = if wanted then (if m == i then j else (if m == j then i else m)) else m

-- the entry of no gate: 1 where row and column are the same, and else 0
abbrev pub identity_entry : ℕ → ℕ → Terms
identity_entry i j = if i == j then record { exponent = zero_exponent; coefficient = pos 1 } ∷ [] else []

-- the matrix of no gate, with this many rows and columns
pub record IsIdentity (rows : ℕ) (sums : List Terms) : Type 0 where
  pub size : length sums ≡ rows * rows
  pub each : (k : ℕ) → k < rows * rows → sum_at sums k ≡ identity_entry (k % rows) (k / rows)
