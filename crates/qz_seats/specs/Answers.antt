-- What the calls on a table ask and answer.
use Rattle.std.specs.Prelude.{◌≡◌, ◌≢◌, ◌⊎◌, ℕ, ◌<◌, ◌≤◌, true, false, List, [], ◌∷◌, ◌++◌, length, slice_get, Option, Some, None}
use Rattle.std.specs.List.{All}
use Rattle.qz_seats.specs.declared.view.View.{View}
use Rattle.qz_seats.specs.declared.seats.Lift.{Lift}
use Rattle.qz_seats.specs.declared.seats.Lift.TheVariants.{Won, Lost}
use Rattle.qz_seats.specs.Views.{draws, placed, with_item, taking, losing}
use Rattle.qz_seats.specs.Steps.{IsLifted}
use Rattle.qz_seats.specs.SeatRule.{between, opening_of, count_of, names_of, AreDifferent, IsAt}

-- A number is below the limit, and the pass did not have it, nor a receipt for its name. There is none where the pass was
-- ended, which is then as it was, or where the number that came is at least the limit, which ends it.
abbrev pub Drew : View → Option ℕ → View → Type 0
Drew v (Some n) w = (v.ended ≡ false) × (n < v.terms.limit) × (draws n v ≡ 0)
    × ((x : ℕ) → slice_get v.terms.names n ≡ Some x → with_item x v ≡ 0) × (w ≡ record v { drawn = v.drawn ++ n ∷ [] })
Drew v None w = ((v.ended ≡ true) × (w ≡ v))
    ⊎ ((v.ended ≡ false) × ((n : ℕ) × (v.terms.limit ≤ n) × (draws n v ≡ 0) × (w ≡ record v { drawn = v.drawn ++ n ∷ []; ended = true })))

module _ {V : Type 0} (N : V → List ℕ) where
  -- all values have the same names, none or as many different numbers as are given out
  pub record HaveNames (limit : ℕ) (values : List V) : Type 0 where
    pub same : All (λ value. N value ≡ names_of N values) values
    pub count : (names_of N values ≡ []) ⊎ (length (names_of N values) ≡ limit)
    pub apart : AreDifferent (names_of N values)

module _ {V : Type 0} (J N M : V → List ℕ) where
  -- A value that was won is held, with the journal, the names and the mark that value i may have. A loss changes nothing else, and
  -- never comes to a pass with all the shares.
  abbrev pub LiftGives : View → ℕ → Lift V → View → Type 0
  LiftGives v i (Won value) w = (w ≡ taking v i (J value)) × IsAt J N M v.terms i (J value) value × IsLifted v i (J value)
  LiftGives v i Lost w = (w ≡ losing v) × (v.shares ≢ v.terms.seats)

  -- The pass holds value i, whose journal has one entry more than when it was lifted, and the names and the mark of value i.
  -- Where there are names, the entry is one that the pass has drawn and has no receipt for.
  pub record HasOneMore (v : View) (i : ℕ) (value : V) : Type 0 where
    pub lifted : List ℕ
    pub entry : ℕ
    pub held : v.held ≡ Some (i, lifted)
    pub at : IsAt J N M v.terms i (lifted ++ entry ∷ []) value
    pub named : v.terms.names ≢ [] → ((d : ℕ) × (slice_get v.terms.names d ≡ Some entry) × (0 < draws d v)) × (with_item entry v ≡ 0)

  -- Value i of a closed table: its journal is the opening one and then one entry for each receipt, at the receipt's place. Its
  -- names and mark are as at the opening.
  pub record IsGrown (v : View) (i : ℕ) (value : V) : Type 0 where
    pub after : List ℕ
    pub at : IsAt J N M v.terms i (opening_of v.terms i ++ after) value
    pub places : (p : ℕ) → placed i p v ≡ between p (length (opening_of v.terms i)) (length (J value))

  -- what a closed table hands back, where a pass with this view had all the shares
  pub record IsClosed (v : View) (values : List V) : Type 0 where
    pub count : length values ≡ count_of v.terms
    pub grown : (i : ℕ) (value : V) → slice_get values i ≡ Some value → IsGrown v i value
    pub stand : All (λ r. (value : V) × (slice_get values r.shard ≡ Some value) × (slice_get (J value) r.place ≡ Some r.item)) v.receipts
    pub once : (x : ℕ) → draws x v < 2
    pub named : v.terms.names ≢ [] → All (λ r. (d : ℕ) × (slice_get v.terms.names d ≡ Some r.item) × (0 < draws d v)) v.receipts
    pub apart : v.terms.names ≢ [] → (x : ℕ) → with_item x v < 2
    pub ended : v.ended ≡ true → (x : ℕ) → x < v.terms.limit → draws x v ≡ 1
