use Rattle.std.proofs.Common.{◌≡◌, ap, sym, subst, ◌∙◌}
use Rattle.qz_circ.specs.Vectors.{lists_of}
use Rattle.qz_search.specs.Rounds.{new_children, advanced, IsBetweenRounds}
use Rattle.qz_search.proofs.RoundSteps.{in_round, is_found}
use Rattle.qz_search.proofs.rounds.search.Goals as goal

pub offer_batch-requires-clause-lawful : goal.offer_batch-requires-clause-lawful
offer_batch-requires-clause-lawful c =
    (in_round c.args.rules.now.classes c.args.c.now c.loop-rounds.rounds.plan c.take_batch.new.self c.in_ok-batch.field-0 c.in-Some.batch (c.in_ok-batch.ensures.found c.args.rules.now.classes c.args.c.now c.loop-rounds.invariant.0) c.in-Some.is).lawful

pub offer_batch-requires-clause-fit : goal.offer_batch-requires-clause-fit
offer_batch-requires-clause-fit c =
    rw c.deref.ensures.value (in_round c.args.rules.now.classes c.args.c.now c.loop-rounds.rounds.plan c.take_batch.new.self c.in_ok-batch.field-0 c.in-Some.batch (c.in_ok-batch.ensures.found c.args.rules.now.classes c.args.c.now c.loop-rounds.invariant.0) c.in-Some.is).fit

pub loop-rounds-preserved : goal.loop-rounds-preserved
loop-rounds-preserved c =
    let rules = c.args.rules.now.classes in
    let within = in_round rules c.args.c.now c.loop-rounds.rounds.plan c.take_batch.new.self c.in_ok-batch.field-0 c.in-Some.batch (c.in_ok-batch.ensures.found rules c.args.c.now c.loop-rounds.invariant.0) c.in-Some.is in
    let ends : c.offer_batch.new.self ≡ advanced c.take_batch.new.self (new_children c.take_batch.new.self (lists_of c.in-Some.batch.items)) = rw c.deref.ensures.value at c.in_ok-offer_batch.ensures in
    (subst (IsBetweenRounds rules c.args.c.now) (sym ends) within.further, ap (λ s. s.plan) ends ∙ c.take_batch.ensures.plan ∙ c.loop-rounds.invariant.1)

pub returns-clause-best : goal.returns-clause-best
returns-clause-best c =
    (is_found c.args.rules.now.classes c.args.c.now c.loop-rounds.rounds.plan c.args.plan c.take_batch.new.self.best c.into_best.result.items c.in_ok-batch.field-0 _ (c.in_ok-batch.ensures.found c.args.rules.now.classes c.args.c.now c.loop-rounds.invariant.0) c.in_default.not-Some c.loop-rounds.invariant.1 c.into_best.ensures).best

pub returns-clause-cheap : goal.returns-clause-cheap
returns-clause-cheap c =
    (is_found c.args.rules.now.classes c.args.c.now c.loop-rounds.rounds.plan c.args.plan c.take_batch.new.self.best c.into_best.result.items c.in_ok-batch.field-0 _ (c.in_ok-batch.ensures.found c.args.rules.now.classes c.args.c.now c.loop-rounds.invariant.0) c.in_default.not-Some c.loop-rounds.invariant.1 c.into_best.ensures).cheap

pub returns-clause-short : goal.returns-clause-short
returns-clause-short c =
    (is_found c.args.rules.now.classes c.args.c.now c.loop-rounds.rounds.plan c.args.plan c.take_batch.new.self.best c.into_best.result.items c.in_ok-batch.field-0 _ (c.in_ok-batch.ensures.found c.args.rules.now.classes c.args.c.now c.loop-rounds.invariant.0) c.in_default.not-Some c.loop-rounds.invariant.1 c.into_best.ensures).short

pub returns-clause-lawful : goal.returns-clause-lawful
returns-clause-lawful c =
    (is_found c.args.rules.now.classes c.args.c.now c.loop-rounds.rounds.plan c.args.plan c.take_batch.new.self.best c.into_best.result.items c.in_ok-batch.field-0 _ (c.in_ok-batch.ensures.found c.args.rules.now.classes c.args.c.now c.loop-rounds.invariant.0) c.in_default.not-Some c.loop-rounds.invariant.1 c.into_best.ensures).lawful

pub returns-clause-equivalent : goal.returns-clause-equivalent
returns-clause-equivalent c =
    (is_found c.args.rules.now.classes c.args.c.now c.loop-rounds.rounds.plan c.args.plan c.take_batch.new.self.best c.into_best.result.items c.in_ok-batch.field-0 _ (c.in_ok-batch.ensures.found c.args.rules.now.classes c.args.c.now c.loop-rounds.invariant.0) c.in_default.not-Some c.loop-rounds.invariant.1 c.into_best.ensures).equivalent

pub returns-clause-complete : goal.returns-clause-complete
returns-clause-complete c =
    (is_found c.args.rules.now.classes c.args.c.now c.loop-rounds.rounds.plan c.args.plan c.take_batch.new.self.best c.into_best.result.items c.in_ok-batch.field-0 _ (c.in_ok-batch.ensures.found c.args.rules.now.classes c.args.c.now c.loop-rounds.invariant.0) c.in_default.not-Some c.loop-rounds.invariant.1 c.into_best.ensures).complete
