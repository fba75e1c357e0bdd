-- Matrices whose entries are sums of monomials, and the circuits that they stand for.
use Rattle.std.specs.Prelude.{◌≡◌, ℕ, ◌+◌, ◌*◌, ◌^◌, ◌<◌, ◌≤◌, List, [], length, slice_index_or}
use Rattle.qz_circ.specs.Circuit.{Circuit}
use Rattle.qz_circ.specs.Exponent.{Exponent}
use Rattle.qz_circ.specs.Paths.{Path, count as path_count, paths, halves as halves_of}
use Rattle.qz_ring.specs.Exponent.{Exponent as Monomial, IsExponent as IsMonomial}
use Rattle.qz_ring.specs.Terms.{Terms, count, weight_of, largest_reach}

-- a matrix on q qubits: how many gates were applied, how many of them were H, and the entries column by column
pub record Entries : Type 0 where
  pub q : ℕ
  pub gates : ℕ
  pub halves : ℕ
  pub sums : List Terms

-- the sum in a place of a list
abbrev pub sum_at : List Terms → ℕ → Terms
sum_at sums k = slice_index_or sums k []

-- the place of row i of column j, among 2 ^ q rows and columns
abbrev pub place_of : ℕ → ℕ → ℕ → ℕ
place_of q i j = j * 2 ^ q + i

-- the entry in row i of column j
abbrev pub entry_at : Entries → ℕ → ℕ → Terms
entry_at m i j = sum_at m.sums (place_of m.q i j)

-- the monomial as an exponent of a path sum
abbrev pub exponent_of : Monomial → Exponent
exponent_of m = record { turn = m.turn; x0 = m.x0; x1 = m.x1; x2 = m.x2 }

-- the sum has the counts of the ways
abbrev pub HasCounts : List Path → Terms → Type 0
HasCounts ways ts = (e : Monomial) → IsMonomial e → count ts e ≡ path_count ways (exponent_of e)

-- the matrix stands for a circuit: each entry has the counts of the ways to its row from its column, and the numbers of gates and of H
-- are the circuit's; nothing is asked of the circuit's gates, whether they are on the matrix's qubits or not
pub record StandsFor (m : Entries) (c : Circuit) : Type 0 where
  pub gates : m.gates ≡ length c
  pub halves : m.halves ≡ halves_of c
  pub entries : (i j : ℕ) → i < 2 ^ m.q → j < 2 ^ m.q → HasCounts (paths m.q c i j) (entry_at m i j)

-- each sum has at most this weight
abbrev pub WeightsAtMost : ℕ → List Terms → Type 0
WeightsAtMost most sums = (k : ℕ) → k < length sums → weight_of (sum_at sums k) ≤ most

-- no power in the sums is greater than this in absolute value
abbrev pub ReachesAtMost : ℕ → List Terms → Type 0
ReachesAtMost most sums = (k : ℕ) → k < length sums → largest_reach (sum_at sums k) ≤ most

-- what holds of every matrix: 1 to 3 qubits, at most 100 gates, and a weight that at most doubles and a reach that grows by at most 1 with each gate
pub record IsMatrix (m : Entries) : Type 0 where
  pub some_qubits : 1 ≤ m.q
  pub few_qubits : m.q ≤ 3
  pub few_gates : m.gates ≤ 100
  pub halves : m.halves ≤ m.gates
  pub size : length m.sums ≡ 2 ^ m.q * 2 ^ m.q
  pub weights : WeightsAtMost (2 ^ m.gates) m.sums
  pub reaches : ReachesAtMost m.gates m.sums
