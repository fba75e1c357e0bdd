-- Lists of ranks within limits.
use Rattle.std.specs.Prelude.{ℕ, ◌<◌, List, length, All}
use Rattle.qz_circ.specs.Circuit.{Limits}
use Rattle.qz_circ.specs.Order.{all_circuits}

-- the limits that the ranks are for, and the lists
pub record ClassLists : Type 0 where
  pub bounds : Limits
  pub lists : List (List ℕ)

-- each number is the rank of a circuit within the limits
abbrev pub AreRanks : Limits → List ℕ → Type 0
AreRanks b ranks = All (λ r. r < length (all_circuits b)) ranks
