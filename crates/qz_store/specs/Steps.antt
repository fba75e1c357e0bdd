-- The seven kinds of step on a table. A step changes what it names, and nothing else.
use Rattle.std.specs.Prelude.{◌≡◌, ◌≢◌, ℕ, ◌+◌, ◌%◌, ◌^◌, ◌<◌, ◌≤◌, true, false, List, [], ◌∷◌, ◌++◌, length, slice_index, slice_set, Option, Some, None}
use mathlib.Core.Option as slots
use lib.ListN.{get_elem?}
use Rattle.atomic_table.specs.Table.{State}
use Rattle.qz_core.specs.RoundMachine.{RoundState, is_pending}
use Rattle.qz_seats.specs.declared.view.Terms.{Terms}
use Rattle.qz_seats.specs.declared.view.View.{View}
use Rattle.qz_seats.specs.Views.{drawing, taking, losing, giving, adding, after_split, newcomer, joined, nobody}
use Rattle.qz_seats.specs.SeatRule.{count_of, IsAt, IsRuled}
use Rattle.qz_seats.specs.Answers.{HasOneMore}
use Rattle.qz_store.specs.Showing.{IsOfStore, Shows}

-- What a pass does, which is named by the number of its seat: it draws a number, wins value i, finds it out, gives it back with
-- the entry r more or as it was, gives a share to a new pass, or takes in another pass.
pub data SeatStep : Type 0 where
  Draw : ℕ → SeatStep
  Won : ℕ → ℕ → SeatStep
  Lost : ℕ → ℕ → SeatStep
  SettleOne : ℕ → ℕ → ℕ → SeatStep
  SettleSame : ℕ → ℕ → SeatStep
  Split : ℕ → SeatStep
  Join : ℕ → ℕ → SeatStep

module _ {V : Type 0} where
  -- a pass that is not spent has seat k, and this is what it knows
  abbrev pub HasPass : State (Option V) View → ℕ → View → Type 0
  HasPass s k v = (get_elem? s.views k ≡ slots.some v) × (0 < v.shares)

  -- the lock of value i becomes `bit`, what is at its home and what the pass in seat k knows are replaced
  abbrev pub moved : State (Option V) View → ℕ → ℕ → slots.Option (Option V) → ℕ → View → State (Option V) View
  moved s i bit home k v = record { words = slice_set s.words (i + 1) bit; homes = slice_set s.homes i home; views = slice_set s.views k v }

  -- what the pass in seat k knows is replaced
  abbrev pub with_view : State (Option V) View → ℕ → View → State (Option V) View
  with_view s k v = record { words = s.words; homes = s.homes; views = slice_set s.views k v }

module _ {V : Type 0} (J N M : V → List ℕ) where
  -- the step leads from the one table to the other
  abbrev pub IsStep : Terms → State (Option V) View → SeatStep → State (Option V) View → Type 0
  IsStep t s (Draw k) u = (v : View) × HasPass s k v × (v.ended ≡ false)
      × (u ≡ record { words = slice_set s.words 0 ((slice_index s.words 0 + 1) % 2 ^ 64); homes = s.homes; views = slice_set s.views k (drawing v (slice_index s.words 0)) })
  IsStep t s (Won k i) u = (v : View) × HasPass s k v × (v.held ≡ None) × (i < count_of t) × (slice_index s.words (i + 1) ≡ 0)
      × (value : V) × (get_elem? s.homes i ≡ slots.some (slots.some (Some value))) × (u ≡ moved s i 1 slots.none k (taking v i (J value)))
  IsStep t s (Lost k i) u = (v : View) × HasPass s k v × (v.held ≡ None) × (i < count_of t) × (slice_index s.words (i + 1) ≢ 0)
      × (u ≡ with_view s k (losing v))
  IsStep t s (SettleOne k i r) u = (v : View) × HasPass s k v × (value : V) × (more : HasOneMore J N M v i value) × (more.entry ≡ r)
      × (u ≡ moved s i 0 (slots.some (Some value)) k (adding v (record { shard = i; place = length more.lifted; item = r })))
  IsStep t s (SettleSame k i) u = (v : View) × HasPass s k v × (value : V) × (v.held ≡ Some (i, J value)) × IsAt J N M v.terms i (J value) value
      × (u ≡ moved s i 0 (slots.some (Some value)) k (giving v))
  IsStep t s (Split k) u = (v : View) × HasPass s k v × (2 ≤ v.shares) × (v.held ≡ None)
      × (u ≡ record { words = s.words; homes = s.homes; views = slice_set s.views k (after_split v) ++ newcomer v ∷ [] })
  IsStep t s (Join k other) u = (v : View) × (w : View) × HasPass s k v × HasPass s other w × (other ≢ k) × (v.held ≡ None) × (w.held ≡ None)
      × (u ≡ with_view (with_view s k (joined v w)) other nobody)

  -- The step, from any table of a store that keeps the rule and shows a round in which P holds, leads to one that keeps the
  -- rule and shows the round after the change.
  abbrev pub IsChange : SeatStep → (RoundState → Type 0) → (RoundState → RoundState) → Type 0
  IsChange step P change = (t : Terms) (s u : State (Option V) View) (m : RoundState)
      → IsOfStore t → IsRuled J N M t s → Shows J t s m → P m → IsStep t s step u → IsRuled J N M t u × Shows J t u (change m)

  -- the step changes nothing of the round
  abbrev pub IsNoEvent : SeatStep → Type 0
  IsNoEvent step = IsChange step (λ _. Unit {0}) (λ m. m)

  -- The entry r that the pass in seat k gives back with value i is pending for some worker of the round that is shown.
  abbrev pub IsPending : ℕ → ℕ → ℕ → Type 0
  IsPending k i r = (t : Terms) (s u : State (Option V) View) (m : RoundState)
      → IsOfStore t → IsRuled J N M t s → Shows J t s m → IsStep t s (SettleOne k i r) u → (worker : ℕ) × (worker < length m.pending) × (is_pending m worker r ≡ true)
