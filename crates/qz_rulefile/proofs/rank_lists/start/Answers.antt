use Rattle.qz_rulefile.proofs.Layouts.{start_behind, start_first}
use Rattle.qz_rulefile.proofs.rank_lists.start.Goals as goal

pub returns-then-c-eq0 : goal.returns-then-c-eq0
returns-then-c-eq0 c = start_first 0 c.args.ends.now c.args.c c.if-c-eq0.true

pub returns : goal.returns
returns c = start_behind 0 c.args.ends.now c.args.c c.if-c-eq0.false
