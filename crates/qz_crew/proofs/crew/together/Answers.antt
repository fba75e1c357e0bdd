use Rattle.qz_crew.proofs.CrewLemmas.{joined_done, on_both}
use Rattle.qz_crew.proofs.crew.together.Goals as goal

pub returns-clause-done : goal.returns-clause-done
returns-clause-done c =
    on_both c.both.result c.args.one.1 c.args.others.1
    (joined_done c.args.one.0.view c.args.others.0.view c.join.new.pass.view c.join.ensures.view c.join.ensures.claims c.join.ensures.receipts)
    c.both.ensures c.requires.done c.requires.others_done
