-- What contracts see of a store, and what a pass has in it.
use Rattle.std.specs.Prelude.{◌≡◌, ℕ, ◌<◌, List, slice_get, Some, None}
use Rattle.qz_circ.specs.Circuit.{Limits}
use Rattle.qz_finger.specs.Fingerprint.{ProbeParts}
use Rattle.qz_seats.specs.declared.view.View.{View}
use Rattle.qz_seats.specs.Views.{draws, with_item}
use Rattle.qz_seats.specs.SeatRule.{opening_of}
use Rattle.qz_seats.specs.Parts.{SeatsParts, PassParts, IsOf}
use Rattle.qz_shard.specs.Shards.{print_at, home_of}

-- A store: its table, with what that was opened with, the bounds of its circuits, and the probe of their fingerprints. The
-- numbers that passes draw are places in its list of ranks.
pub record StoreParts : Type 0 where
  pub seats : SeatsParts
  pub bounds : Limits
  pub probe : ProbeParts

-- the list of the ranks that are given out
abbrev pub list_of : StoreParts → List ℕ
list_of s = s.seats.terms.names

-- the journal of shard k at the opening
abbrev pub old_journal : StoreParts → ℕ → List ℕ
old_journal s k = opening_of s.seats.terms k

-- the fingerprint of the circuit with this rank
abbrev pub print_in : StoreParts → ℕ → ℕ
print_in s r = print_at s.bounds s.probe.seed r

-- the number of the shard in which it belongs: the fingerprint's remainder by 16
abbrev pub home_in : StoreParts → ℕ → ℕ
home_in s r = home_of s.bounds s.probe.seed r

-- a pass of this store that holds no shard
pub record IsFree (s : StoreParts) (pass : PassParts) : Type 0 where
  pub of : IsOf pass s.seats
  pub free : pass.view.held ≡ None

-- the place of the rank in the list was drawn
abbrev pub HasClaimed : View → ℕ → Type 0
HasClaimed v r = (d : ℕ) × (slice_get v.terms.names d ≡ Some r) × (0 < draws d v)

-- there is a receipt for the rank
abbrev pub HasReceipt : View → ℕ → Type 0
HasReceipt v r = 0 < with_item r v

-- the rank was claimed, and there is no receipt for it
pub record IsPending (v : View) (r : ℕ) : Type 0 where
  pub claimed : HasClaimed v r
  pub unput : HasReceipt v r → ⊥
