-- Which round a table shows.
use Rattle.std.specs.Prelude.{◌≡◌, ◌≢◌, ◌⊎◌, ℕ, ◌<◌, ◌==◌, if◌then◌else◌, min, List, [], ◌++◌, length, slice_get, slice_index, slice_index_or, Option, Some}
use Rattle.std.specs.List.{sum_by}
use mathlib.Core.Option as slots
use lib.ListN.{get_elem?}
use Rattle.atomic_table.specs.Table.{State}
use Rattle.qz_core.specs.RoundMachine.{times_in_all, RoundState}
use Rattle.qz_seats.specs.declared.view.Terms.{Terms}
use Rattle.qz_seats.specs.declared.view.View.{View}
use Rattle.qz_seats.specs.Views.{draws, with_item}
use Rattle.qz_seats.specs.SeatRule.{count_of, opening_of, IsLawful}

-- A table is a store's where its names are a list of ranks, one for each number that is given out, and its values are 16.
pub record IsOfStore (t : Terms) : Type 0 where
  pub lawful : IsLawful t
  pub some : t.names ≢ []
  pub sixteen : count_of t ≡ 16

-- how often a pass has drawn the number d, where it has no receipt for the rank r, whose number d is
abbrev pub waiting : ℕ → ℕ → View → ℕ
waiting d r v = if with_item r v == 0 then draws d v else 0

module _ {V : Type 0} (J : V → List ℕ) where
  -- the journal of value i now: that of the value at home, or that with which a pass has lifted it
  abbrev pub IsJournal : State (Option V) View → ℕ → List ℕ → Type 0
  IsJournal s i journal =
      ((value : V) × (get_elem? s.homes i ≡ slots.some (slots.some (Some value))) × (J value ≡ journal))
      ⊎ ((k : ℕ) × (v : View) × (get_elem? s.views k ≡ slots.some v) × (v.held ≡ Some (i, journal)))

  -- The table shows the round. Its ranks are the names. As many are claimed as numbers are drawn, but no more than there are. A rank is
  -- pending as often as a pass has drawn its number and has no receipt for it, all workers taken together. The list of a
  -- shard is what came into its journal after the opening.
  pub record Shows (t : Terms) (s : State (Option V) View) (m : RoundState) : Type 0 where
    pub ranks : m.list ≡ t.names
    pub next : m.next ≡ min (slice_index s.words 0) t.limit
    pub pending : (d r : ℕ) → slice_get t.names d ≡ Some r → times_in_all r m.pending ≡ sum_by (waiting d r) s.views
    pub no_other : (r : ℕ) → ((d : ℕ) → slice_get t.names d ≢ Some r) → times_in_all r m.pending ≡ 0
    pub count : length m.shards ≡ count_of t
    pub shards : (i : ℕ) (journal : List ℕ) → i < count_of t → IsJournal s i journal → journal ≡ opening_of t i ++ slice_index_or m.shards i []

-- Two rounds differ at most in who has which pending rank and in which order, and in the homes, of which a table tells nothing.
pub record IsSameRound (m n : RoundState) : Type 0 where
  pub ranks : m.list ≡ n.list
  pub next : m.next ≡ n.next
  pub pending : (r : ℕ) → times_in_all r m.pending ≡ times_in_all r n.pending
  pub shards : m.shards ≡ n.shards
