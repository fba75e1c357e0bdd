-- The rule of the seat table. It holds between any two steps.
-- Word 0 is the counter, word i + 1 is the lock of value i, and slot i is the value's home.
use Rattle.std.specs.Prelude.{◌≡◌, ◌≢◌, ◌⊎◌, ℕ, ◌+◌, ◌^◌, ◌<◌, ◌≤◌, ◌==◌, ◌&&◌, nat_lt, nat_le, true, if◌then◌else◌, List, [], ◌∷◌, ◌++◌, map, length, slice_get, slice_index, slice_index_or, Option, Some}
use Rattle.std.specs.List.{All, count_by, sum_by}
use mathlib.Core.Option as slots
use lib.ListN.{get_elem?}
use Rattle.atomic_table.specs.Table.{State}
use Rattle.qz_seats.specs.declared.view.Terms.{Terms}
use Rattle.qz_seats.specs.declared.view.View.{View}
use Rattle.qz_seats.specs.Views.{draws, draws_past, shares_unended, holding, placed, entered, with_item, nobody}

-- 1 where x is below n, else 0
abbrev pub below : ℕ → ℕ → ℕ
below x n = if nat_lt x n then 1 else 0

-- 1 where p is at least a and below b, else 0
abbrev pub between : ℕ → ℕ → ℕ → ℕ
between p a b = if nat_le a p && nat_lt p b then 1 else 0

-- how often x stands in the list
abbrev pub times : ℕ → List ℕ → ℕ
times x xs = count_by (λ y. y == x) xs

-- no number stands at two places
abbrev pub AreDifferent : List ℕ → Type 0
AreDifferent xs = (d e x : ℕ) → slice_get xs d ≡ Some x → slice_get xs e ≡ Some x → d ≡ e

-- how many values there are
abbrev pub count_of : Terms → ℕ
count_of t = length t.openings

-- the journal of value i at the opening, and its mark
abbrev pub opening_of : Terms → ℕ → List ℕ
opening_of t i = slice_index_or t.openings i []

abbrev pub mark_of : Terms → ℕ → List ℕ
mark_of t i = slice_index_or t.marks i []

-- the journal of value i, where `rest` has what came after the opening
abbrev pub journal_of : Terms → (ℕ → List ℕ) → ℕ → List ℕ
journal_of t rest i = opening_of t i ++ rest i

module _ {V : Type 0} where
  -- the names that all values share are those of the first
  abbrev pub names_of : (V → List ℕ) → List V → List ℕ
  names_of N [] = []
  names_of N (value ∷ values) = N value

  -- what a table is opened with
  abbrev pub terms_of : (V → List ℕ) → (V → List ℕ) → (V → List ℕ) → ℕ → ℕ → List V → Terms
  terms_of J N M limit seats values =
      record { seats = seats; limit = limit; openings = map J values; names = names_of N values; marks = map M values }

-- the limits of a table; and its names are none, or as many different numbers as are given out
pub record IsLawful (t : Terms) : Type 0 where
  pub given : t.limit ≤ 2 ^ 40
  pub some_seat : 1 ≤ t.seats
  pub few_seats : t.seats ≤ 16
  pub few_values : count_of t ≤ 16
  pub named : (t.names ≡ []) ⊎ (length t.names ≡ t.limit)
  pub apart : AreDifferent t.names

-- each receipt is for a name, and no name has more receipts than its number has draws
pub record IsNamed (names : List ℕ) (v : View) : Type 0 where
  pub each_name : All (λ r. (d : ℕ) × (slice_get names d ≡ Some r.item)) v.receipts
  pub each_drawn : (d x : ℕ) → slice_get names d ≡ Some x → with_item x v ≤ draws d v

-- what the rule says of one pass alone
pub record Fits (t : Terms) (counter : ℕ) (rest : ℕ → List ℕ) (v : View) : Type 0 where
  pub live : 0 < v.shares → v.terms ≡ t
  pub spent : v.shares ≡ 0 → v ≡ nobody
  pub past : 0 < draws_past t.limit v → v.ended ≡ true
  pub ended : v.ended ≡ true → t.limit < counter
  pub holds : (h : ℕ × List ℕ) → v.held ≡ Some h → (h.0 < count_of t) × (h.1 ≡ journal_of t rest h.0)
  pub stand : All (λ r. (r.shard < count_of t) × (slice_get (journal_of t rest r.shard) r.place ≡ Some r.item)) v.receipts
  pub named : t.names ≢ [] → IsNamed t.names v

module _ {V : Type 0} (J N M : V → List ℕ) where
  -- the value has this journal, the names and the mark of value i
  pub record IsAt (t : Terms) (i : ℕ) (journal : List ℕ) (value : V) : Type 0 where
    pub journal_is : J value ≡ journal
    pub names_are : N value ≡ t.names
    pub mark_is : M value ≡ mark_of t i

  -- what the rule says of value i, where `rest` came into its journal after the opening
  pub record IsValue (t : Terms) (i : ℕ) (rest : List ℕ) (word : ℕ) (slot : slots.Option (slots.Option (Option V))) (views : List View) : Type 0 where
    pub lock : sum_by (holding i) views ≡ word
    pub bit : word < 2
    pub home : word ≡ 0 → (value : V) × (slot ≡ slots.some (slots.some (Some value))) × IsAt t i (opening_of t i ++ rest) value
    pub out : word ≡ 1 → slot ≡ slots.some slots.none
    pub places : (p : ℕ) → sum_by (placed i p) views ≡ between p (length (opening_of t i)) (length (opening_of t i) + length rest)
    pub entries : (x : ℕ) → sum_by (entered i x) views ≡ times x rest

  -- the rule
  pub record IsRuled (t : Terms) (s : State (Option V) View) : Type 0 where
    pub rest : ℕ → List ℕ
    pub wide : length s.words ≡ count_of t + 1
    pub long : length s.homes ≡ count_of t
    pub drawn : (x : ℕ) → sum_by (draws x) s.views ≡ below x (slice_index s.words 0)
    pub shares : sum_by (λ v. v.shares) s.views ≡ t.seats
    pub past : sum_by (draws_past t.limit) s.views + sum_by shares_unended s.views ≤ t.seats
    pub counter : slice_index s.words 0 ≤ t.limit + sum_by (draws_past t.limit) s.views
    pub values : (i : ℕ) → i < count_of t → IsValue t i (rest i) (slice_index s.words (i + 1)) (get_elem? s.homes i) s.views
    pub fits : (k : ℕ) (v : View) → get_elem? s.views k ≡ slots.some v → Fits t (slice_index s.words 0) rest v
