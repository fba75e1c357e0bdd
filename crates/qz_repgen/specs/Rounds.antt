-- Representatives and kept circuits by their number of gates.
use Rattle.std.specs.Prelude.{◌≡◌, ℕ, ◌<◌, ◌≤◌, length}
use Rattle.qz_circ.specs.Circuit.{Limits}
use Rattle.qz_circ.specs.Order.{all_circuits, circuit_at}
use Rattle.qz_circ.specs.Classes.{IsKept, IsRepresentativeRank}

-- r is the rank of a representative of k gates
pub record IsRepresentativeOf (b : Limits) (k r : ℕ) : Type 0 where
  pub representative : IsRepresentativeRank b r
  pub long : length (circuit_at b r) ≡ k

-- r is the rank of a kept circuit of k gates
pub record IsKeptOf (b : Limits) (k r : ℕ) : Type 0 where
  pub listed : r < length (all_circuits b)
  pub kept : IsKept b (circuit_at b r)
  pub long : length (circuit_at b r) ≡ k

-- r is the rank of a kept circuit of at most k gates
pub record IsKeptUpTo (b : Limits) (k r : ℕ) : Type 0 where
  pub listed : r < length (all_circuits b)
  pub kept : IsKept b (circuit_at b r)
  pub short : length (circuit_at b r) ≤ k
