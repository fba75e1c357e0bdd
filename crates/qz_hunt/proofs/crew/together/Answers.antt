use Rattle.qz_hunt.specs.Gathered.{IsGathered}
use Rattle.qz_search.proofs.RoundLaws.{if_ok_more}
use Rattle.qz_hunt.proofs.GatherLemmas.{gathered_by_both}
use Rattle.qz_hunt.proofs.crew.together.Goals as goal

pub returns-clause-gathered : goal.returns-clause-gathered
returns-clause-gathered c =
    if_ok_more _ (IsGathered c.args.round.now c.join.new.pass.view) c.merged.result
    (λ all merged. gathered_by_both c.args.round.now c.args.one.0.view c.args.others.0.view c.join.new.pass.view c.args.one.1 c.args.others.1 all c.join.ensures.view c.requires.gathered c.requires.others_gathered merged)
    c.merged.ensures
