use Rattle.std.proofs.Common.{ap, subst}
use Rattle.qz_circ.specs.Queue.{IsQueue}
use Rattle.qz_hunt.proofs.GatherLemmas.{gathered_lawful}
use Rattle.qz_hunt.proofs.gather.Round.turns.Goals as goal

pub turn-requires-clause-lawful : goal.turn-requires-clause-lawful
turn-requires-clause-lawful g c = λ κs outlives. gathered_lawful c.args.self.now c.loop.queue c.loop.pass.view.drawn (subst IsQueue (ap (λ r. r.search.queue) c.self.view_is) c.queue.ensures.lawful) c.loop.invariant.3
