-- Which of a plan's numbers is refused.
use Rattle.std.specs.Prelude.{ℕ, ◌*◌, nat_lt, ◌||◌, cond, Bool, Option, Some, None}
use Rattle.std.specs.List.{list_any}
use Rattle.qz_circ.specs.ProgramCircuits.{most_weight}
use Rattle.qz_circ.specs.Search.{PlanNumbers, most_taken, most_held, most_taken_in_all, most_slack}
use Rattle.qz_search.specs.declared.plan.PlanFault.{PlanFault}
use Rattle.qz_search.specs.declared.plan.PlanFault.TheVariants.{Batch, Cap, Rounds, Slack, Weight}

-- it is no weight of a gate, which weighs from 1 to 100
abbrev pub is_no_weight : ℕ → Bool
is_no_weight w = nat_lt w 1 || nat_lt most_weight w

-- the first of the numbers that is refused: a round takes 1 to 64 circuits, the queue holds 1 to 500, all rounds together take
-- at most 4,096, the slack is at most 4, and each gate weighs 1 to 100
unfoldable pub plan_refusal : PlanNumbers → Option PlanFault
plan_refusal p =
    cond (nat_lt p.batch 1 || nat_lt most_taken p.batch) (Some Batch) (cond (nat_lt p.cap 1 || nat_lt most_held p.cap) (Some Cap) (cond (nat_lt most_taken_in_all (p.rounds * p.batch)) (Some Rounds) (cond (nat_lt most_slack p.slack) (Some Slack) (cond (list_any is_no_weight p.weights) (Some Weight) None))))
