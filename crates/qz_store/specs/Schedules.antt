-- Whole schedules: any steps of any passes, one after another, from the opening on.
use Rattle.std.specs.Prelude.{◌≡◌, ◌≢◌, ℕ, ◌+◌, ◌≤◌, ◌^◌, List, [], ◌∷◌, ◌++◌, map, length, replicate, Option, Some}
use Rattle.atomic_table.specs.Table.{State, opening}
use Rattle.qz_core.specs.RoundMachine.{RoundEvent, opened, home_among, after_events}
use Rattle.qz_core.specs.RoundMachine.RoundEvent.{Claim, Put}
use Rattle.qz_seats.specs.declared.view.Terms.{Terms}
use Rattle.qz_seats.specs.declared.view.View.{View}
use Rattle.qz_seats.specs.Views.{first_view}
use Rattle.qz_seats.specs.SeatRule.{names_of, terms_of, IsRuled}
use Rattle.qz_seats.specs.Answers.{HaveNames}
use Rattle.qz_store.specs.Showing.{Shows}
use Rattle.qz_store.specs.Steps.{SeatStep, IsStep}
use Rattle.qz_store.specs.Steps.SeatStep.{Draw, Won, Lost, SettleOne, SettleSame, Split, Join}

-- a step that gives a value back with an entry more does so with the value whose number is the home of that entry
abbrev pub IsPutHome : List ℕ → List ℕ → SeatStep → Type 0
IsPutHome list homes (Draw k) = Unit {0}
IsPutHome list homes (Won k i) = Unit {0}
IsPutHome list homes (Lost k i) = Unit {0}
IsPutHome list homes (SettleOne k i r) = i ≡ home_among list homes r
IsPutHome list homes (SettleSame k i) = Unit {0}
IsPutHome list homes (Split k) = Unit {0}
IsPutHome list homes (Join k other) = Unit {0}

abbrev pub ArePutHome : List ℕ → List ℕ → List SeatStep → Type 0
ArePutHome list homes [] = Unit {0}
ArePutHome list homes (step ∷ steps) = IsPutHome list homes step × ArePutHome list homes steps

-- what a step is on the round, where all passes are one worker: a draw is a claim, and an entry that comes is a put
abbrev pub event_of : SeatStep → List RoundEvent
event_of (Draw k) = Claim 0 ∷ []
event_of (Won k i) = []
event_of (Lost k i) = []
event_of (SettleOne k i r) = Put 0 r ∷ []
event_of (SettleSame k i) = []
event_of (Split k) = []
event_of (Join k other) = []

abbrev pub events_of : List SeatStep → List RoundEvent
events_of [] = []
events_of (step ∷ steps) = event_of step ++ events_of steps

module _ {V : Type 0} (J N M : V → List ℕ) where
  -- the schedule leads from the one table to the other
  abbrev pub IsSchedule : Terms → State (Option V) View → List SeatStep → State (Option V) View → Type 0
  IsSchedule t s [] u = u ≡ s
  IsSchedule t s (step ∷ steps) u = (next : State (Option V) View) × IsStep J N M t s step next × IsSchedule t next steps u

  -- the values with which a store is opened: 16 that have the same list of ranks, one rank for each number below the limit
  pub record AreForStore (limit seats : ℕ) (values : List V) : Type 0 where
    pub given : limit ≤ 2 ^ 40
    pub some_seat : 1 ≤ seats
    pub few_seats : seats ≤ 16
    pub names : HaveNames N limit values
    pub some : names_of N values ≢ []
    pub sixteen : length values ≡ 16

  -- the table at the opening
  abbrev pub opened_table : ℕ → ℕ → List V → State (Option V) View
  opened_table limit seats values = opening (replicate (length values + 1) 0) (map Some values) (first_view (terms_of J N M limit seats values))

  -- The schedule, from the opened table of these values on, leads to a table that keeps the rule and shows the round after its
  -- events, where each entry is put home.
  abbrev pub IsInterleaving : ℕ → ℕ → List V → List ℕ → List SeatStep → State (Option V) View → Type 0
  IsInterleaving limit seats values homes steps u = AreForStore limit seats values → ArePutHome (names_of N values) homes steps
      → IsSchedule (terms_of J N M limit seats values) (opened_table limit seats values) steps u
      → IsRuled J N M (terms_of J N M limit seats values) u × Shows J (terms_of J N M limit seats values) u (after_events (events_of steps) (opened 1 (names_of N values) homes))
