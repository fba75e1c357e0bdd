use Rattle.std.proofs.Common.{rules}
use Rattle.qz_circ.specs.Bounds.{IsLawful}
use Rattle.qz_paths.proofs.Completeness.{joins_equivalent}
use Rattle.qz_paths.proofs.Members.{members_equivalent}
use Rattle.qz_repgen.specs.Journals.{IsKeptRank}
use Rattle.qz_repgen.proofs.RoundLemmas.{listed_class_list}
use Rattle.qz_repgen.proofs.ShardLemmas.{ranks_of_all}
use Rattle.qz_repgen.proofs.finish.finished.Goals as goal

-- the shards hold ranks
pub listed-requires-clause-ranks : goal.listed-requires-clause-ranks
listed-requires-clause-ranks c = ranks_of_all c.args.b c.args.seed (IsKeptRank c.args.b) c.args.shards.now c.requires.held (λ r h. h.listed)

-- what is listed is the class list
pub report_of-report-requires-clause-class_list : goal.report_of-report-requires-clause-class_list
report_of-report-requires-clause-class_list c =
    let lawful : IsLawful c.args.b = search rules in
    listed_class_list c.args.b lawful c.args.seed c.args.shards.now c.requires.held c.in_ok-classes.classes.lists c.in_ok-classes.ensures.together

pub returns-clause-classes : goal.returns-clause-classes
returns-clause-classes c =
    let lawful : IsLawful c.args.b = search rules in
    listed_class_list c.args.b lawful c.args.seed c.args.shards.now c.requires.held c.in_ok-classes.classes.lists c.in_ok-classes.ensures.together

pub returns-clause-equivalent : goal.returns-clause-equivalent
returns-clause-equivalent c =
    let lawful : IsLawful c.args.b = search rules in
    members_equivalent c.args.b lawful c.in_ok-classes.classes.lists (returns-clause-classes c)

pub returns-clause-complete : goal.returns-clause-complete
returns-clause-complete c =
    let lawful : IsLawful c.args.b = search rules in
    joins_equivalent c.args.b lawful c.in_ok-classes.classes.lists (returns-clause-classes c)
