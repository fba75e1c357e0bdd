-- Circuits of rules that have numbers.
use Rattle.std.specs.Prelude.{◌≡◌, ℕ, ◌<◌, List, ◌++◌, length}
use Rattle.qz_circ.specs.Circuit.{Circuit}
use Rattle.qz_circ.specs.Replacement.{numbered}

-- the new ones are the old ones, and maybe more behind them
pub record IsLonger (old new : List Circuit) : Type 0 where
  pub more : List Circuit
  pub parts : new ≡ old ++ more

-- the circuit has this number, and those that had numbers keep them
pub record HasNumber (old new : List Circuit) (k : ℕ) (c : Circuit) : Type 0 where
  pub longer : IsLonger old new
  pub within : k < length new
  pub is : numbered new k ≡ c
