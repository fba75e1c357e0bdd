-- The tables of a probe: random weights, and what angles are worth.
use Rattle.std.specs.Prelude.{◌≡◌, ℕ, ◌+◌, ◌%◌, ◌^◌, ◌≤◌, nat_lt, if◌then◌else◌, List, [], ◌∷◌, map}
use Rattle.std.specs.List.{range_with_len}
use Rattle.qz_finger.specs.declared.tables.Tables.{Tables}
use Rattle.qz_finger.specs.Modulo.{modulus}
use Rattle.qz_finger.specs.Weights.{entries_on}
use Rattle.qz_random.specs.RandomWords.{word}
use Rattle.qz_finger.specs.Fingerprint.{Bases, bases_of, inverted}

-- the words of the seed after some first ones, modulo p, in the places below size, and 0 in the others
unfoldable pub weights_after : ℕ → ℕ → ℕ → List ℕ
weights_after seed skip size = map (λ k. if nat_lt k size then word seed (skip + k) % modulus else 0) (range_with_len 0 64)

-- the first 32 powers, modulo p
unfoldable pub powers_of : ℕ → List ℕ
powers_of root = map (λ k. root ^ k % modulus) (range_with_len 0 32)

-- three numbers modulo p
abbrev pub three_of : ℕ → ℕ → ℕ → List ℕ
three_of a b c = a % modulus ∷ b % modulus ∷ c % modulus ∷ []

-- the tables of these weights and bases
unfoldable pub tables_of : List ℕ → Bases → Tables
tables_of weights b = record { weights = weights; constants = powers_of b.root; up = three_of b.g0 b.g1 b.g2; down = three_of b.h0 b.h1 b.h2 }

-- those of values
unfoldable pub value_tables : ℕ → ℕ → Tables
value_tables seed q = tables_of (weights_after seed 0 (entries_on q)) (bases_of seed q)

-- those of inverse values
unfoldable pub inverse_tables : ℕ → ℕ → Tables
inverse_tables seed q = tables_of (weights_after seed (entries_on q) (entries_on q)) (inverted (bases_of seed q))

-- what holds of every probe: 1 to 3 qubits, and its tables are those of its seed
pub record HasTables (seed q : ℕ) (first second : Tables) : Type 0 where
  pub some_qubits : 1 ≤ q
  pub few_qubits : q ≤ 3
  pub values : first ≡ value_tables seed q
  pub inverses : second ≡ inverse_tables seed q
