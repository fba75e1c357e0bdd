use Rattle.qz_crew.proofs.CrewLemmas.{parted_all}
use Rattle.qz_crew.proofs.crew.parted.Goals as goal

pub returns-clause-others_all : goal.returns-clause-others_all
returns-clause-others_all c = parted_all c.args.pass.view c.split-one.new.pass.view c.split-one.ensures.view c.requires.all
