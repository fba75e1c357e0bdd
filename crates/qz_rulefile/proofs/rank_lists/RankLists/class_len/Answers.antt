use Rattle.std.proofs.Common.{sym}
use Rattle.qz_rulefile.proofs.Layouts.{in_ends, ClassOf, class_of}
use Rattle.qz_rulefile.proofs.rank_lists.RankLists.class_len.Goals as goal
use Rattle.qz_rulefile.proofs.rank_lists.RankLists.class_len.Goals.{After-start}

class : (c : After-start) → ClassOf c.args.self.now c.self.inside.bounds c.self.inside.ends.items c.self.inside.members.items c.args.c c.start.result c.end.result
class c = class_of c.self.inside.bounds c.self.inside.ends.items c.self.inside.members.items c.args.self.now c.args.c c.start.result c.end.result
    c.self.view_is c.self.invariant.1 c.self.invariant.2 c.requires (rw c.as_slice-ends.ensures.value at c.start.ensures) (rw c.as_slice-ends.ensures.value at c.end.ensures)

pub end-requires : goal.end-requires
end-requires c = rw c.as_slice-ends.ensures.value (in_ends c.self.inside.bounds c.self.inside.ends.items c.self.inside.members.items c.args.self.now c.args.c c.self.view_is c.requires)

pub start-requires : goal.start-requires
start-requires c = rw c.as_slice-ends.ensures.value (in_ends c.self.inside.bounds c.self.inside.ends.items c.self.inside.members.items c.args.self.now c.args.c c.self.view_is c.requires)

pub overflow_sub-result : goal.overflow_sub-result
overflow_sub-result c = (class c).from

pub returns-clause-len : goal.returns-clause-len
returns-clause-len c = sym (class c).len

pub returns-clause-several : goal.returns-clause-several
returns-clause-several c = (class c).several

pub returns-clause-few : goal.returns-clause-few
returns-clause-few c = (class c).few
