-- Shards: journals of ranks whose fingerprints have one remainder by 16.
use Rattle.std.specs.Prelude.{◌≡◌, ℕ, ◌%◌, ◌<◌, ◌==◌, List, length, map, count_by, All}
use Rattle.std.specs.FinSet.{len, from_list}
use Rattle.std.specs.List.{list_any, AllPairs}
use Rattle.std.specs.Ordering.{nat_cmp}
use Rattle.qz_circ.specs.Bounds.{IsLawful}
use Rattle.qz_circ.specs.Circuit.{Limits}
use Rattle.qz_circ.specs.Order.{all_circuits, circuit_at}
use Rattle.qz_finger.specs.Fingerprint.{ProbeParts, fingerprint}

-- what a contract sees of a shard: its number, the bounds of its circuits, the probe of their fingerprints, and its journal, which
-- lists ranks in the order in which they came
pub record ShardParts : Type 0 where
  pub number : ℕ
  pub bounds : Limits
  pub probe : ProbeParts
  pub journal : List ℕ

-- the fingerprint of the circuit with this rank
abbrev pub print_at : Limits → ℕ → ℕ → ℕ
print_at b seed r = fingerprint seed b.q (circuit_at b r)

-- the number of the shard in which it belongs: the fingerprint's remainder by 16
abbrev pub home_of : Limits → ℕ → ℕ → ℕ
home_of b seed r = print_at b seed r % 16

-- the rank belongs into this shard
abbrev pub IsAtHome : ShardParts → ℕ → Type 0
IsAtHome s r = home_of s.bounds s.probe.seed r ≡ s.number

-- the journal lists different ranks of circuits within the bounds, all of which belong into this shard
pub record IsShard (s : ShardParts) : Type 0 where
  pub number : s.number < 16
  pub lawful : IsLawful s.bounds
  pub qubits : s.probe.q ≡ s.bounds.q
  pub different : AllPairs (λ r t. r ≡ t → ⊥) s.journal
  pub listed : All (λ r. r < length (all_circuits s.bounds)) s.journal
  pub home : All (IsAtHome s) s.journal

-- how many of the classes have a member with this fingerprint
abbrev pub classes_with : ShardParts → ℕ → List (List ℕ) → ℕ
classes_with s print classes = count_by (λ class. list_any (λ r. print_at s.bounds s.probe.seed r == print) class) classes

-- how many different fingerprints there are in the journal
abbrev pub different_prints : ShardParts → ℕ
different_prints s = len (from_list {R = nat_cmp} (map (print_at s.bounds s.probe.seed) s.journal))
