-- The round machine: workers claim the ranks of a list in its order, and put each into the list of its home.
use Rattle.std.specs.Prelude.{◌≡◌, ◌≢◌, ℕ, ◌+◌, ◌<◌, ◌≤◌, ◌==◌, nat_lt, cond, Bool, List, [], ◌∷◌, ◌++◌, Option, length, take, replicate, count_by, slice_get, slice_index, slice_index_or, slice_set, All}
use Rattle.std.specs.List.{sum_by, list_any, position_or_len}
use Rattle.std.specs.List.Sorted.{IsStrictlyIncreasing}
use Rattle.std.specs.Option.{option_to_list}
use Rattle.std.specs.Set.{remove_key}

-- how often a rank is in a list
abbrev pub times : ℕ → List ℕ → ℕ
times r ranks = count_by (λ x. x == r) ranks

-- how often it is in some lists together
abbrev pub times_in_all : ℕ → List (List ℕ) → ℕ
times_in_all r lists = sum_by (times r) lists

-- the lists, that with this number with the rank after its last
abbrev pub with_entry : List (List ℕ) → ℕ → ℕ → List (List ℕ)
with_entry lists i r = slice_set lists i (slice_index_or lists i [] ++ r ∷ [])

-- the lists, that with this number without the rank where it first stands
abbrev pub without_entry : List (List ℕ) → ℕ → ℕ → List (List ℕ)
without_entry lists i r = slice_set lists i (remove_key (λ x. x == r) (slice_index_or lists i []))

-- A round: the ranks and the home of each, how many of them are claimed, the pending ranks of each worker, and the ranks
-- that each of the 16 shards got, in the order in which they came.
pub record RoundState : Type 0 where
  pub list : List ℕ
  pub homes : List ℕ
  pub next : ℕ
  pub pending : List (List ℕ)
  pub shards : List (List ℕ)

-- a round of n workers before the first event
abbrev pub opened : ℕ → List ℕ → List ℕ → RoundState
opened n list homes = record { list = list; homes = homes; next = 0; pending = replicate n []; shards = replicate 16 [] }

-- the home of a rank of the list
unfoldable pub home_among : List ℕ → List ℕ → ℕ → ℕ
home_among list homes r = slice_index homes (position_or_len (λ x. x == r) list)

abbrev pub home_of : RoundState → ℕ → ℕ
home_of m r = home_among m.list m.homes r

-- whether a rank is pending for a worker
unfoldable pub is_pending : RoundState → ℕ → ℕ → Bool
is_pending m worker r = list_any (λ x. x == r) (slice_index_or m.pending worker [])

-- the rank that the next claim gives, if any is left
abbrev pub claim_answer : RoundState → Option ℕ
claim_answer m = slice_get m.list m.next

-- After a claim the next rank is pending for the worker. Where none is left, nothing changes.
unfoldable pub claimed : RoundState → ℕ → RoundState
claimed m worker =
    cond (nat_lt m.next (length m.list))
    (record m { next = m.next + 1; pending = with_entry m.pending worker (slice_index m.list m.next) })
    m

-- After a put a rank that was pending for the worker is the last of its home's list. Where it wasn't, nothing changes.
unfoldable pub put : RoundState → ℕ → ℕ → RoundState
put m worker r =
    cond (is_pending m worker r)
    (record m { pending = without_entry m.pending worker r; shards = with_entry m.shards (home_of m r) r })
    m

-- what a worker does: it claims the next rank, or puts one
pub data RoundEvent : Type 0 where
  Claim : ℕ → RoundEvent
  Put : ℕ → ℕ → RoundEvent

-- the round after an event
abbrev pub happens : RoundState → RoundEvent → RoundState
happens m (Claim worker) = claimed m worker
happens m (Put worker r) = put m worker r

-- the round after an interleaving, which is any list of events
abbrev pub after_events : List RoundEvent → RoundState → RoundState
after_events [] m = m
after_events (event ∷ events) m = after_events events (happens m event)

-- the ranks that the claims of an interleaving give, in their order
abbrev pub claims_give : List RoundEvent → RoundState → List ℕ
claims_give [] m = []
claims_give (Claim worker ∷ events) m = option_to_list (claim_answer m) ++ claims_give events (claimed m worker)
claims_give (Put worker r ∷ events) m = claims_give events (put m worker r)

-- the events are of n workers, which are counted from 0
abbrev pub AreOfWorkers : ℕ → List RoundEvent → Type 0
AreOfWorkers n [] = Unit {0}
AreOfWorkers n (Claim worker ∷ events) = (worker < n) × AreOfWorkers n events
AreOfWorkers n (Put worker r ∷ events) = (worker < n) × AreOfWorkers n events

-- ranks that rise, and as many homes below 16
pub record IsRoundOf (list homes : List ℕ) : Type 0 where
  pub rising : IsStrictlyIncreasing list
  pub each : length homes ≡ length list
  pub below : All (λ home. home < 16) homes

-- the rank is one of those that are claimed
abbrev pub IsClaimed : RoundState → ℕ → Type 0
IsClaimed m r = (k : ℕ) × (k < m.next) × (slice_index m.list k ≡ r)

-- the rank is pending once, for one worker, and is in no shard
pub record IsPendingOnce (m : RoundState) (r : ℕ) : Type 0 where
  pub worker : ℕ
  pub within : worker < length m.pending
  pub once : times r (slice_index_or m.pending worker []) ≡ 1
  pub no_other : times_in_all r m.pending ≡ 1
  pub not_put : times_in_all r m.shards ≡ 0

-- the rank stands once, in its home, and is not pending
pub record IsPutOnce (m : RoundState) (r : ℕ) : Type 0 where
  pub once : times r (slice_index_or m.shards (home_of m r) []) ≡ 1
  pub no_other : times_in_all r m.shards ≡ 1
  pub not_pending : times_in_all r m.pending ≡ 0

-- the rank is not pending, and is in no shard
pub record IsNowhere (m : RoundState) (r : ℕ) : Type 0 where
  pub not_pending : times_in_all r m.pending ≡ 0
  pub not_put : times_in_all r m.shards ≡ 0

-- all ranks are claimed, and nothing is pending
pub record IsFinished (m : RoundState) : Type 0 where
  pub all : m.next ≡ length m.list
  pub none : (worker : ℕ) → slice_index_or m.pending worker [] ≡ []

-- what holds of a round of n workers before each event: each claimed rank is pending or stands in its home
pub record IsRound (n : ℕ) (m : RoundState) : Type 0 where
  pub input : IsRoundOf m.list m.homes
  pub workers : length m.pending ≡ n
  pub sixteen : length m.shards ≡ 16
  pub bound : m.next ≤ length m.list
  pub places : (r : ℕ) → times_in_all r m.pending + times_in_all r m.shards ≡ times r (take m.next m.list)
  pub number : sum_by length m.pending + sum_by length m.shards ≡ m.next
  pub home : (s r : ℕ) → s ≢ home_of m r → times r (slice_index_or m.shards s []) ≡ 0

-- the fact holds after each interleaving of any number of workers, over ranks that rise and their homes
abbrev pub HoldsAlways : (RoundState → Type 0) → Type 0
HoldsAlways P =
    (n : ℕ) (list homes : List ℕ) (events : List RoundEvent) → IsRoundOf list homes → AreOfWorkers n events → P (after_events events (opened n list homes))
