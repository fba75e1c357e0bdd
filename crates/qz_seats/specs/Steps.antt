-- What each kind of step tells the pass that makes it. `me` is what the pass knows, with the slots that it has.
use Rattle.std.specs.Prelude.{◌≡◌, ◌≢◌, ℕ, ◌+◌, ◌<◌, ◌≤◌, List, [], ◌∷◌, ◌++◌, length, slice_get, slice_index, Option, Some}
use Rattle.std.specs.List.{All}
use Rattle.atomic_table.specs.Table.{Me, rest}
use Rattle.qz_seats.specs.declared.view.View.{View}
use Rattle.qz_seats.specs.Views.{draws, with_item, drawing, taking, losing, giving, adding}
use Rattle.qz_seats.specs.SeatRule.{times, opening_of, IsAt}

-- The journal of a value that was lifted begins with the opening one and has each receipt of the pass at its place. A name
-- that the pass has drawn and has no receipt for is not among the entries that came after.
pub record IsLifted (v : View) (i : ℕ) (journal : List ℕ) : Type 0 where
  pub after : List ℕ
  pub begins : journal ≡ opening_of v.terms i ++ after
  pub receipts : All (λ r. r.shard ≡ i → slice_get journal r.place ≡ Some r.item) v.receipts
  pub absent : v.terms.names ≢ [] → (d x : ℕ) → slice_get v.terms.names d ≡ Some x → 0 < draws d v → with_item x v ≡ 0 → times x after ≡ 0

module _ {V : Type 0} where
  -- the number n is drawn, which the pass did not have, nor a receipt for its name
  abbrev pub IsDraw : Me (Option V) View → ℕ → Me (Option V) View → Type 0
  IsDraw me n new = (new ≡ (drawing me.0 n, me.1)) × (draws n me.0 ≡ 0)
      × ((x : ℕ) → slice_get me.0.terms.names n ≡ Some x → with_item x me.0 ≡ 0)

  -- nothing changes, no number is there twice, and there are no more shares than seats
  abbrev pub IsLook : Me (Option V) View → Me (Option V) View → Type 0
  IsLook me new = (new ≡ me) × ((x : ℕ) → draws x me.0 < 2) × (me.0.shares ≤ me.0.terms.seats)

  -- nothing is held
  abbrev pub IsSettleSame : Me (Option V) View → Me (Option V) View → Type 0
  IsSettleSame me new = new ≡ (giving me.0, rest me.1)

  -- nothing is held, and there is a receipt for the entry at the end of the lifted journal
  abbrev pub IsSettleOne : (V → List ℕ) → Me (Option V) View → Me (Option V) View → Type 0
  IsSettleOne J me new = (h : ℕ × List ℕ) (value : V) → me.0.held ≡ Some h → me.1 ≡ (h.0, Some value) ∷ []
      → new ≡ (adding me.0 (record { shard = h.0; place = length h.1; item = slice_index (J value) (length h.1) }), [])

module _ {V : Type 0} (J N M : V → List ℕ) where
  -- value i is held, and its slot has come into the seat
  pub record IsWon (i : ℕ) (me new : Me (Option V) View) : Type 0 where
    pub value : V
    pub becomes : new ≡ (taking me.0 i (J value), (i, Some value) ∷ me.1)
    pub at : IsAt J N M me.0.terms i (J value) value
    pub lifted : IsLifted me.0 i (J value)

  -- a 0 that was found in the word of value i is a value won, all else is a loss, and there is none with all the shares
  pub record IsLift (word : ℕ) (me : Me (Option V) View) (found : ℕ) (new : Me (Option V) View) : Type 0 where
    pub won : found ≡ 0 → (i : ℕ) → word ≡ i + 1 → IsWon i me new
    pub lost : found ≢ 0 → new ≡ (losing me.0, me.1)
    pub alone : me.0.shares ≡ me.0.terms.seats → found ≡ 0
