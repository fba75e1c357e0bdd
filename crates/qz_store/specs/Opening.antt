-- What a store is opened with, and what it is then.
use Rattle.std.specs.Prelude.{◌≡◌, ℕ, ◌<◌, List, map, length, slice_get, Some, Contains, All}
use Rattle.std.specs.List.Sorted.{IsStrictlyIncreasing}
use Rattle.qz_circ.specs.Circuit.{Limits}
use Rattle.qz_circ.specs.Order.{all_circuits}
use Rattle.qz_finger.specs.Fingerprint.{ProbeParts}
use Rattle.qz_shard.specs.Shards.{ShardParts}
use Rattle.qz_store.specs.Stores.{StoreParts, list_of}

-- shard number k of these bounds and this probe
pub record IsNumber (b : Limits) (probe : ProbeParts) (k : ℕ) (shard : ShardParts) : Type 0 where
  pub number_is : shard.number ≡ k
  pub bounds_are : shard.bounds ≡ b
  pub probe_is : shard.probe ≡ probe

-- the 16 shards of these bounds and this probe, in order
pub record AreSixteen (b : Limits) (probe : ProbeParts) (shards : List ShardParts) : Type 0 where
  pub count : length shards ≡ 16
  pub each : (k : ℕ) (shard : ShardParts) → slice_get shards k ≡ Some shard → IsNumber b probe k shard

-- some ranks of circuits within the bounds, rising, none of which is in a journal of these shards
pub record IsNewList (b : Limits) (shards : List ShardParts) (list : List ℕ) : Type 0 where
  pub some : 0 < length list
  pub rising : IsStrictlyIncreasing list
  pub listed : All (λ r. r < length (all_circuits b)) list
  pub absent : All (λ shard. (r : ℕ) → Contains list r → Contains shard.journal r → ⊥) shards

-- the store has this list, these shards at the opening, these bounds and this probe, and so many seats; as many numbers are given
-- out as there are ranks in the list
pub record IsOpened (list : List ℕ) (shards : List ShardParts) (b : Limits) (probe : ProbeParts) (seats : ℕ) (s : StoreParts) : Type 0 where
  pub list_is : list_of s ≡ list
  pub limit_is : s.seats.terms.limit ≡ length list
  pub journals_are : s.seats.terms.openings ≡ map (λ shard. shard.journal) shards
  pub bounds_are : s.bounds ≡ b
  pub probe_is : s.probe ≡ probe
  pub seats_are : s.seats.terms.seats ≡ seats
