use Rattle.qz_equiv.proofs.RootLemmas.{gates_room}
use Rattle.qz_equiv.proofs.phase.same_column.Goals as goal

pub same_entry-requires-clause-weight : goal.same_entry-requires-clause-weight
same_entry-requires-clause-weight c = gates_room c.args.roots c.args.y.now.gates _ c.requires.few c.entry-in-loop-i.ensures.weight
