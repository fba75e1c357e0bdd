-- What contracts see of a table and of a pass.
use Rattle.std.specs.Prelude.{◌≡◌, ℕ, ◌+◌, ◌<◌, ◌≤◌, Bool, List, [], ◌∷◌, Option, Some, None}
use Rattle.atomic_table.specs.Table.{Me}
use Rattle.atomic_table.specs.Seated.{TableId}
use Rattle.qz_seats.specs.declared.view.Terms.{Terms}
use Rattle.qz_seats.specs.declared.view.View.{View}
use Rattle.qz_seats.specs.SeatRule.{count_of, IsLawful}

-- which table it is, and what it was opened with
pub record SeatsParts : Type 0 where
  pub table : TableId
  pub terms : Terms

-- which table the pass is of, and what it knows
pub record PassParts : Type 0 where
  pub table : TableId
  pub view : View

-- a pass of this table
abbrev pub IsOf : PassParts → SeatsParts → Type 0
IsOf pass seats = (pass.table ≡ seats.table) × (pass.view.terms ≡ seats.terms)

module _ {V : Type 0} where
  -- the slots that a pass has: that of the value held, which is empty
  abbrev pub carried : Option (ℕ × List ℕ) → List (ℕ × Option V)
  carried None = []
  carried (Some h) = (h.0, None) ∷ []

  -- what a pass keeps: its two fields say what it knows
  pub record IsPass (me : Me (Option V) View) (shares : ℕ) (ended : Bool) : Type 0 where
    pub shares_are : shares ≡ me.0.shares
    pub ended_is : ended ≡ me.0.ended
    pub live : 0 < me.0.shares
    pub slots : me.1 ≡ carried me.0.held
    pub inside : (h : ℕ × List ℕ) → me.0.held ≡ Some h → h.0 < count_of me.0.terms

  -- what a table keeps: it is lawful, and has room for the values that a closing hands back
  pub record IsSeats (t : Terms) (words slots limit : ℕ) (room : List V) (capacity : ℕ) : Type 0 where
    pub lawful : IsLawful t
    pub limit_is : limit ≡ t.limit
    pub words_are : words ≡ count_of t + 1
    pub slots_are : slots ≡ count_of t
    pub empty : room ≡ []
    pub room_is : count_of t ≤ capacity
