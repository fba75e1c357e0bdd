use Rattle.std.proofs.Common.{ap, sym, subst, ◌∙◌, arith}
use Rattle.std.proofs.lemmas.List.{length-map}
use Rattle.qz_search.specs.Rounds.{IsBetweenRounds}
use Rattle.qz_search.proofs.RoundSteps.{in_round, is_found}
use Rattle.qz_hunt.proofs.rounds.hunt.Goals as goal

pub next_round-requires-clause-fit : goal.next_round-requires-clause-fit
next_round-requires-clause-fit g c = λ κs outlives. (in_round c.args.rules.now.classes c.args.c.now c.loop-rounds.rounds.plan c.take_batch.new.self c.in_ok-batch.field-0 c.in-Some.batch (c.in_ok-batch.ensures.found c.args.rules.now.classes c.args.c.now c.loop-rounds.invariant.0) c.in-Some.is).fit

pub next_round-requires-clause-few : goal.next_round-requires-clause-few
next_round-requires-clause-few g c = λ κs outlives. omega (arith, (in_round c.args.rules.now.classes c.args.c.now c.loop-rounds.rounds.plan c.take_batch.new.self c.in_ok-batch.field-0 c.in-Some.batch (c.in_ok-batch.ensures.found c.args.rules.now.classes c.args.c.now c.loop-rounds.invariant.0) c.in-Some.is).few, length-map c.in-Some.batch.items (λ v. v.items))

pub loop-rounds-preserved : goal.loop-rounds-preserved
loop-rounds-preserved g c =
    let rules = c.args.rules.now.classes in
    let within = in_round c.args.rules.now.classes c.args.c.now c.loop-rounds.rounds.plan c.take_batch.new.self c.in_ok-batch.field-0 c.in-Some.batch (c.in_ok-batch.ensures.found c.args.rules.now.classes c.args.c.now c.loop-rounds.invariant.0) c.in-Some.is in
    let ends = c.in_ok-rounds-2.ensures in
    (subst (IsBetweenRounds rules c.args.c.now) (sym ends) within.further, ap (λ s. s.plan) ends ∙ c.take_batch.ensures.plan ∙ c.loop-rounds.invariant.1)

pub returns-clause-best : goal.returns-clause-best
returns-clause-best g c =
    (is_found c.args.rules.now.classes c.args.c.now c.loop-rounds.rounds.plan c.args.plan c.take_batch.new.self.best c.into_best.result.items c.in_ok-batch.field-0 _ (c.in_ok-batch.ensures.found c.args.rules.now.classes c.args.c.now c.loop-rounds.invariant.0) c.in_default.not-Some c.loop-rounds.invariant.1 c.into_best.ensures).best

pub returns-clause-cheap : goal.returns-clause-cheap
returns-clause-cheap g c =
    (is_found c.args.rules.now.classes c.args.c.now c.loop-rounds.rounds.plan c.args.plan c.take_batch.new.self.best c.into_best.result.items c.in_ok-batch.field-0 _ (c.in_ok-batch.ensures.found c.args.rules.now.classes c.args.c.now c.loop-rounds.invariant.0) c.in_default.not-Some c.loop-rounds.invariant.1 c.into_best.ensures).cheap

pub returns-clause-short : goal.returns-clause-short
returns-clause-short g c =
    (is_found c.args.rules.now.classes c.args.c.now c.loop-rounds.rounds.plan c.args.plan c.take_batch.new.self.best c.into_best.result.items c.in_ok-batch.field-0 _ (c.in_ok-batch.ensures.found c.args.rules.now.classes c.args.c.now c.loop-rounds.invariant.0) c.in_default.not-Some c.loop-rounds.invariant.1 c.into_best.ensures).short

pub returns-clause-lawful : goal.returns-clause-lawful
returns-clause-lawful g c =
    (is_found c.args.rules.now.classes c.args.c.now c.loop-rounds.rounds.plan c.args.plan c.take_batch.new.self.best c.into_best.result.items c.in_ok-batch.field-0 _ (c.in_ok-batch.ensures.found c.args.rules.now.classes c.args.c.now c.loop-rounds.invariant.0) c.in_default.not-Some c.loop-rounds.invariant.1 c.into_best.ensures).lawful

pub returns-clause-equivalent : goal.returns-clause-equivalent
returns-clause-equivalent g c =
    (is_found c.args.rules.now.classes c.args.c.now c.loop-rounds.rounds.plan c.args.plan c.take_batch.new.self.best c.into_best.result.items c.in_ok-batch.field-0 _ (c.in_ok-batch.ensures.found c.args.rules.now.classes c.args.c.now c.loop-rounds.invariant.0) c.in_default.not-Some c.loop-rounds.invariant.1 c.into_best.ensures).equivalent

pub returns-clause-complete : goal.returns-clause-complete
returns-clause-complete g c =
    (is_found c.args.rules.now.classes c.args.c.now c.loop-rounds.rounds.plan c.args.plan c.take_batch.new.self.best c.into_best.result.items c.in_ok-batch.field-0 _ (c.in_ok-batch.ensures.found c.args.rules.now.classes c.args.c.now c.loop-rounds.invariant.0) c.in_default.not-Some c.loop-rounds.invariant.1 c.into_best.ensures).complete
