-- The random numbers of a fingerprint: the words that `Pcg64` gives from a seed on, in order. With N = 2^q they are the N·N
-- weights, row by row, then the N·N weights of inverse values, and then the powers of 7 that the three parameters stand for.
use Rattle.std.specs.Prelude.{ℕ, ◌+◌, ◌*◌, ◌%◌, ◌^◌}
use Rattle.qz_random.specs.RandomWords.{word}
use Rattle.qz_finger.specs.Modulo.{modulus}

-- how many entries a matrix on q qubits has
abbrev pub entries_on : ℕ → ℕ
entries_on q = 2 ^ q * 2 ^ q

-- the place of row i and column j, row by row
abbrev pub place_of : ℕ → ℕ → ℕ → ℕ
place_of q i j = i * 2 ^ q + j

-- the weight of row i and column j
abbrev pub weight : ℕ → ℕ → ℕ → ℕ → ℕ
weight seed q i j = word seed (place_of q i j) % modulus

-- the weight of row i and column j for inverse values
abbrev pub inverse_weight : ℕ → ℕ → ℕ → ℕ → ℕ
inverse_weight seed q i j = word seed (entries_on q + place_of q i j) % modulus

-- the power of 7 that parameter k stands for, where k is 0, 1 or 2
abbrev pub power_of : ℕ → ℕ → ℕ → ℕ
power_of seed q k = word seed (entries_on q + entries_on q + k) % 65536
