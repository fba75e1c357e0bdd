-- The sixteen shards of a generation.
use Rattle.std.specs.Prelude.{◌≡◌, ℕ, ◌<◌, List, [], ◌∷◌, ◌++◌, length, map, slice_index_or, slice_set, Contains}
use Rattle.qz_circ.specs.Circuit.{Limits, below}
use Rattle.qz_circ.specs.Order.{all_circuits, circuit_at}
use Rattle.qz_finger.specs.Fingerprint.{ProbeParts}
use Rattle.qz_finger.specs.Stands.{StandsFor}
use Rattle.qz_shard.specs.Shards.{ShardParts, print_at, home_of}
use Rattle.qz_repgen.specs.declared.fingerprints.Front.{Front}
use Rattle.qz_repgen.specs.declared.fingerprints.CircuitValues.{CircuitValues}
use Rattle.qz_repgen.specs.Journals.{AreAtHome}

-- it is shard number k, of these limits and this seed
pub record IsShardOf (b : Limits) (seed k : ℕ) (s : ShardParts) : Type 0 where
  pub number : s.number ≡ k
  pub bounds : s.bounds ≡ b
  pub own_seed : s.probe.seed ≡ seed
  pub qubits : s.probe.q ≡ b.q

-- 16 shards of these limits and this seed, by their numbers
pub record AreShards (b : Limits) (seed : ℕ) (shards : List ShardParts) : Type 0 where
  pub number : length shards ≡ 16
  pub each : (k : ℕ) (d : ShardParts) → k < 16 → IsShardOf b seed k (slice_index_or shards k d)

-- their journals
abbrev pub journals_of : List ShardParts → List (List ℕ)
journals_of shards = map (λ s. s.journal) shards

-- 16 shards that have together exactly the ranks of which the fact holds
pub record ShardsHold (b : Limits) (seed : ℕ) (P : ℕ → Type 0) (shards : List ShardParts) : Type 0 where
  pub are : AreShards b seed shards
  pub journals : AreAtHome (home_of b seed) P (journals_of shards)

-- a shard with an empty journal
abbrev pub empty_shard : Limits → ProbeParts → ℕ → ShardParts
empty_shard b probe k = record { number = k; bounds = b; probe = probe; journal = [] }

-- the shards of the numbers below n, with empty journals
unfoldable pub empty_shards : Limits → ProbeParts → ℕ → List ShardParts
empty_shards b probe n = map (empty_shard b probe) (below n)

-- the shard has number k, and r, with this fingerprint, may be added to it where it is at home
pub record IsReadyFor (r print k : ℕ) (s : ShardParts) : Type 0 where
  pub number : s.number ≡ k
  pub listed : r < length (all_circuits s.bounds)
  pub new : Contains s.journal r → ⊥
  pub own_print : print ≡ print_at s.bounds s.probe.seed r

-- the shard with r at the end of its journal
abbrev pub with_entry : ShardParts → ℕ → ShardParts
with_entry s r = record { number = s.number; bounds = s.bounds; probe = s.probe; journal = s.journal ++ r ∷ [] }

-- new is old with r in shard number k
abbrev pub AddsTo : ℕ → ℕ → List ShardParts → List ShardParts → Type 0
AddsTo k r old new = (d : ShardParts) → new ≡ slice_set old k (with_entry (slice_index_or old k d) r)

-- the values are those of the circuit with this rank
pub record HoldsValues (b : Limits) (probe : ProbeParts) (circuit : CircuitValues) : Type 0 where
  pub listed : circuit.rank < length (all_circuits b)
  pub stands : StandsFor probe (circuit_at b circuit.rank) circuit.values

-- both circuits have their values
pub record HoldsFront (b : Limits) (probe : ProbeParts) (front : Front) : Type 0 where
  pub circuit : HoldsValues b probe front.circuit
  pub shorter : HoldsValues b probe front.shorter

-- what a contract sees of what makes fingerprints: the bounds of the circuits, and the probe
pub record FingerprintsParts : Type 0 where
  pub bounds : Limits
  pub probe : ProbeParts

-- the probe is for the qubits of the limits, and the front is a circuit
pub record MakesFingerprints (b : Limits) (probe : ProbeParts) (circuit : Front) : Type 0 where
  pub qubits : probe.q ≡ b.q
  pub front : HoldsFront b probe circuit
