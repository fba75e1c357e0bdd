use Rattle.std.proofs.Common.{refl, rules, sym, subst, ◌∙◌, List, ℕ}
use Rattle.qz_circ.specs.Search.{PlanNumbers, IsPlan}
use Rattle.qz_search.proofs.PlanLimits.{weighed, plan_lawful, plan_accepted}
use Rattle.qz_search.proofs.plan.Plan.weighted.Goals as goal

pub returns-in-Some-clause-lawful : goal.returns-in-Some-clause-lawful
returns-in-Some-clause-lawful c =
    (λ e. cc, λ lawful. let none = c.in-Some.ensures ∙ plan_accepted _ lawful in cc)

pub as_bytes-requires : goal.as_bytes-requires
as_bytes-requires c =
    let p : PlanNumbers = record { rounds = c.args.rounds; batch = c.args.batch; cap = c.args.cap; slack = c.args.slack; weights = c.args.weights } in
    weighed p (sym c.in-None.ensures)

pub invariant_of-result : goal.invariant_of-result
invariant_of-result c =
    let p : PlanNumbers = record { rounds = c.args.rounds; batch = c.args.batch; cap = c.args.cap; slack = c.args.slack; weights = c.args.weights } in
    subst (λ (ws : List ℕ). IsPlan (record { rounds = c.args.rounds; batch = c.args.batch; cap = c.args.cap; slack = c.args.slack; weights = ws })) (sym c.as_bytes.ensures) (plan_lawful p (search rules) (sym c.in-None.ensures))

pub returns-in-None-clause-lawful : goal.returns-in-None-clause-lawful
returns-in-None-clause-lawful c = (λ _. plan_lawful _ (search rules) (sym c.in-None.ensures), λ _. refl)
