-- What a store in memory keeps.
use Rattle.std.specs.Prelude.{◌≡◌, ℕ, ◌<◌, ◌≤◌, List, [], ◌∷◌, length, Contains, All}
use Rattle.qz_circ.specs.Bounds.{IsLawful}
use Rattle.qz_circ.specs.Circuit.{Limits}
use Rattle.qz_circ.specs.Order.{all_circuits}
use Rattle.qz_finger.specs.Fingerprint.{ProbeParts}
use Rattle.qz_seats.specs.SeatRule.{count_of, mark_of}
use Rattle.qz_shard.specs.Shards.{ShardParts}
use Rattle.qz_store.specs.Stores.{StoreParts, list_of, old_journal}

-- what of a shard stays while its journal grows: the number, the bounds and the probe
abbrev pub mark_with : Limits → ProbeParts → ℕ → List ℕ
mark_with b probe number = number ∷ b.n ∷ b.q ∷ b.m ∷ b.grain ∷ probe.seed ∷ probe.q ∷ []

abbrev pub shard_mark : ShardParts → List ℕ
shard_mark shard = mark_with shard.bounds shard.probe shard.number

-- the names of its table are the list; the values are 16 shards by their numbers, of its bounds and its probe; and there is room for
-- those that a closing hands back
pub record IsStore (s : StoreParts) (list : List ℕ) (room : List ShardParts) (capacity : ℕ) : Type 0 where
  pub list_is : list ≡ list_of s
  pub some : 0 < length (list_of s)
  pub limit_is : s.seats.terms.limit ≡ length (list_of s)
  pub listed : All (λ r. r < length (all_circuits s.bounds)) (list_of s)
  pub sixteen : count_of s.seats.terms ≡ 16
  pub marks : (k : ℕ) → k < 16 → mark_of s.seats.terms k ≡ mark_with s.bounds s.probe k
  pub absent : (k r : ℕ) → Contains (list_of s) r → Contains (old_journal s k) r → ⊥
  pub lawful : IsLawful s.bounds
  pub qubits : s.probe.q ≡ s.bounds.q
  pub empty : room ≡ []
  pub room_is : 16 ≤ capacity
