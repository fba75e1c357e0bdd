-- Columns of the matrices of programs, and what a gate makes of them.
use Rattle.std.specs.Prelude.{◌≡◌, ◌≢◌, ℕ, ◌+◌, ◌-◌, ◌^◌, ◌<◌, Bool, false, if◌then◌else◌, List, [], length, slice_index_or, ℤ, ◌+ℤ◌, ◌-ℤ◌}
use Rattle.std.specs.List.{AllByRecursion}
use Rattle.qz_circ.specs.declared.circuit.Inst.{Inst}
use Rattle.qz_circ.specs.declared.circuit.Inst.TheVariants.{H, X, Cx, Rz}
use Rattle.qz_circ.specs.Exponent.{turn_of}
use Rattle.qz_circ.specs.Paths.{has_bit, flipped_state, count, root2}
use Rattle.qz_circ.specs.ProgramCircuits.{ProgramCircuit, IsProgramGate, is_program_h, program_halves, program_paths}
use Rattle.qz_check.specs.Sums.{TurnedSum, amount, IsSmall}

-- the sum in a place of a list
abbrev pub sum_at : List TurnedSum → ℕ → TurnedSum
sum_at sums k = slice_index_or sums k (record { turn = 0; counts = [] })

-- the qubit that a gate changes
abbrev pub target_of : Inst → ℕ
target_of (H t) = t
target_of (X t) = t
target_of (Cx c t) = t
target_of (Rz t a) = t

-- what is counted at place k after the gate, where the sum there was x, and y at the place with the target flipped
abbrev pub amount_after : Inst → ℕ → TurnedSum → TurnedSum → ℕ → ℤ
-- the sum of both, or the difference where the qubit is 1
amount_after (H t) k x y n = if has_bit t k then amount y n -ℤ amount x n else amount x n +ℤ amount y n
-- that of the other place
amount_after (X t) k x y n = amount y n
-- that of the other place where the control is 1
amount_after (Cx c t) k x y n = amount (if has_bit c k then y else x) n
-- that of the same place, turned on where the qubit is 1
amount_after (Rz t a) k x y n = amount x (if has_bit t k then n + (512 - a) else n)

-- by which power of 2 a gate makes counts greater at most
abbrev pub owed : Inst → ℕ
owed g = if is_program_h g then 1 else 0

-- the sum is the one at place k after the gate
pub record IsNext (g : Inst) (k : ℕ) (x y new : TurnedSum) : Type 0 where
  pub amounts : (n : ℕ) → amount new n ≡ amount_after g k x y n
  pub small : (h : ℕ) → IsSmall h x → IsSmall h y → IsSmall (h + owed g) new

-- the sums are those after the gate
pub record IsAfter (g : Inst) (old new : List TurnedSum) : Type 0 where
  pub size : length new ≡ length old
  pub each : (k : ℕ) → k < length old → IsNext g k (sum_at old k) (sum_at old (flipped_state (target_of g) k)) (sum_at new k)

-- the sums in places k and f are those after the gate, and the others are as they were
pub record IsPairAfter (g : Inst) (k f : ℕ) (old new : List TurnedSum) : Type 0 where
  pub size : length new ≡ length old
  pub first : IsNext g k (sum_at old k) (sum_at old f) (sum_at new k)
  pub second : IsNext g f (sum_at old f) (sum_at old k) (sum_at new f)
  pub others : (m : ℕ) → m ≢ k → m ≢ f → sum_at new m ≡ sum_at old m

-- the sums in two places are exchanged, if that is wanted
pub record IsExchangedPair (wanted : Bool) (k f : ℕ) (old new : List TurnedSum) : Type 0 where
  pub size : length new ≡ length old
  pub first : sum_at new k ≡ sum_at old (if wanted then f else k)
  pub second : sum_at new f ≡ sum_at old (if wanted then k else f)
  pub others : (m : ℕ) → m ≢ k → m ≢ f → sum_at new m ≡ sum_at old m

-- each sum's counts are at most 2^h
abbrev pub AreSmall : ℕ → List TurnedSum → Type 0
AreSmall h sums = (k : ℕ) → k < length sums → IsSmall h (sum_at sums k)

-- with a place there is also the one with qubit t flipped
abbrev pub IsClosed : ℕ → ℕ → Type 0
IsClosed t size = (k : ℕ) → k < size → flipped_state t k < size

-- the column from state j of the matrix of a circuit, times √2 as often as d says
pub record IsColumn (q d j : ℕ) (sums : List TurnedSum) (c : ProgramCircuit) : Type 0 where
  pub size : length sums ≡ 2 ^ q
  pub gates : AllByRecursion (IsProgramGate q) c
  pub small : AreSmall (d + program_halves c) sums
  pub amounts : (i n : ℕ) → i < 2 ^ q → amount (sum_at sums i) n ≡ count (root2 d (program_paths q c i j)) (turn_of n)

-- t turns take y to x
abbrev pub IsTurnedBy : ℕ → TurnedSum → TurnedSum → Type 0
IsTurnedBy t x y = (n : ℕ) → amount x n ≡ amount y (n + (512 - t))

-- they take each sum of ys to that of xs
abbrev pub AreTurnedBy : ℕ → List TurnedSum → List TurnedSum → Type 0
AreTurnedBy t xs ys = (i : ℕ) → i < length xs → IsTurnedBy t (sum_at xs i) (sum_at ys i)

-- a flag in a list
abbrev pub flag : List Bool → ℕ → Bool
flag flags t = slice_index_or flags t false
