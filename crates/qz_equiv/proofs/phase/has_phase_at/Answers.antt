use Rattle.qz_equiv.proofs.RootLemmas.{gates_room}
use Rattle.qz_equiv.proofs.phase.has_phase_at.Goals as goal

pub times_roots-requires-clause-weight : goal.times_roots-requires-clause-weight
times_roots-requires-clause-weight c = gates_room c.args.roots c.args.y.now.gates _ c.requires.few c.entry.ensures.weight
