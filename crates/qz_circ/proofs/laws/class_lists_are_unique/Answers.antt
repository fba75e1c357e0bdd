use Rattle.qz_circ.proofs.ClassLaws.{class_list_same}
use Rattle.qz_circ.proofs.laws.class_lists_are_unique.Goals as goal

pub returns : goal.returns
returns _ = class_list_same
