use Rattle.qz_search.proofs.TableLaws.{one_taken}
use Rattle.qz_search.proofs.table.take_twins.Goals as goal

pub loop-preserved : goal.loop-preserved
loop-preserved c =
    one_taken c.args.left.now c.args.rights.now.items c.loop.rights.items c.add_all.new.rights.items c.in-Some.more.items c.args.sides.now.items c.loop.sides.items c.take_twin.new.sides.items c.loop.invariant c.in-Some.ensures c.in_ok-add_all-in-Some.ensures
