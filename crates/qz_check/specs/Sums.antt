-- Whole sums of turns. With ζ = e^(iπ/256), n turns are ζ^n, and 256 more change the sign.
use Rattle.std.specs.Prelude.{◌≡◌, ℕ, ◌+◌, ◌-◌, ◌^◌, ◌%◌, ◌<◌, ◌≤◌, Bool, List, length, slice_index_or, nat_lt, if◌then◌else◌, ℤ, pos, neg_ℤ, ◌+ℤ◌, ◌-ℤ◌, unsigned_abs}
use Rattle.qz_circ.specs.Exponent.{zero_exponent}
use Rattle.qz_circ.specs.Paths.{Path, way_if}

-- how often each turn below half a circle is counted, where all are turned on by one more turn
pub record TurnedSum : Type 0 where
  pub turn : ℕ
  pub counts : List ℤ

-- how often a turn below 512 is counted: half a circle further as often, with the other sign
abbrev pub counted : List ℤ → ℕ → ℤ
counted counts n = if nat_lt n 256 then slice_index_or counts n (pos 0) else neg_ℤ (slice_index_or counts (n - 256) (pos 0))

-- how often n turns are counted, where all are turned on
abbrev pub counted_behind : List ℤ → ℕ → ℕ → ℤ
counted_behind counts by n = counted counts ((n + (512 - by)) % 512)

-- how often the sum counts n turns
unfoldable pub amount : TurnedSum → ℕ → ℤ
amount x n = counted_behind x.counts x.turn n

-- no count is greater than this in absolute value
abbrev pub AreAtMost : ℕ → List ℤ → Type 0
AreAtMost most counts = (k : ℕ) → unsigned_abs (slice_index_or counts k (pos 0)) ≤ most

-- no count is greater than 2^h in absolute value
unfoldable pub IsSmall : ℕ → TurnedSum → Type 0
IsSmall h x = AreAtMost (2 ^ h) x.counts

-- what holds of every sum
pub record IsTurnedSum (x : TurnedSum) : Type 0 where
  pub turn : x.turn < 512
  pub size : length x.counts ≡ 256
  pub small : AreAtMost (2 ^ 120) x.counts

-- the difference, or the sum
abbrev pub combine : Bool → ℤ → ℤ → ℤ
combine negated x y = if negated then x -ℤ y else x +ℤ y

-- new counts the sum or the difference of what both lists count, each turned on
pub record IsCombined (negated : Bool) (left : List ℤ) (left_turn : ℕ) (right : List ℤ) (right_turn : ℕ) (new : List ℤ) : Type 0 where
  pub size : length new ≡ 256
  pub counts : (n : ℕ) → counted_behind new 0 n ≡ combine negated (counted_behind left left_turn n) (counted_behind right right_turn n)
  pub small : (h : ℕ) → AreAtMost (2 ^ h) left → AreAtMost (2 ^ h) right → AreAtMost (2 ^ (h + 1)) new

-- the one way with the exponent of 1 where the test holds, and else none
abbrev pub one_if : Bool → List Path
one_if test = way_if test (pos 1) zero_exponent

-- the counts of a number: it is that of no turn, and there are no others
pub record IsNumber (z : ℤ) (counts : List ℤ) : Type 0 where
  pub size : length counts ≡ 256
  pub first : slice_index_or counts 0 (pos 0) ≡ z
  pub others : (k : ℕ) → 0 < k → slice_index_or counts k (pos 0) ≡ pos 0
