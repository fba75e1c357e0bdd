-- The part that is replaced where a circuit is lowered, and the ranks on the way down to a representative.
use Rattle.std.specs.Prelude.{◌≡◌, ℕ, ◌<◌, ◌≤◌, List, ◌∷◌, map, length, drop}
use Rattle.qz_circ.specs.Circuit.{Circuit, Limits}
use Rattle.qz_circ.specs.ClassLists.{AreRanks}
use Rattle.qz_circ.specs.Classes.{IsRepresentative}
use Rattle.qz_circ.specs.Order.{all_circuits, circuit_at}
use Rattle.qz_circ.specs.Chains.{part_of, IsFirstPart, IsDown, last_of}
use Rattle.qz_derive.specs.Indexes.{HasRepresentative}

-- the gates from start are the fewest last gates that are no representative, and this is the rank of theirs
pub record IsLastPart (b : Limits) (c : Circuit) (start put : ℕ) : Type 0 where
  pub order : start ≤ length c
  pub shorter : (k : ℕ) → start < k → k ≤ length c → IsRepresentative b (drop k c)
  pub found : HasRepresentative b (drop start c) put

-- the first part that is replaced, and the rank of the representative that is put in its place
pub record IsPart (b : Limits) (c : Circuit) (start stop put : ℕ) : Type 0 where
  pub first : IsFirstPart b c start stop
  pub found : HasRepresentative b (part_of start stop c) put

-- the ranks of the circuit with rank r and of all below it on its way down, of which the last is lowest
pub record IsDescent (b : Limits) (r : ℕ) (ranks : List ℕ) (lowest : ℕ) : Type 0 where
  pub rest : List Circuit
  pub circuits : map (circuit_at b) ranks ≡ circuit_at b r ∷ rest
  pub down : IsDown b (circuit_at b r) rest
  pub ends : last_of (circuit_at b r) rest ≡ circuit_at b lowest
  pub listed : AreRanks b ranks
  pub lowest_listed : lowest < length (all_circuits b)
