use Rattle.qz_store.proofs.Traces.{schedules_interleave}
use Rattle.qz_store.proofs.laws.each_schedule_is_an_interleaving.Goals as goal

pub returns-clause-shown : goal.returns-clause-shown
returns-clause-shown g c = schedules_interleave g.V.Journal.journal g.V.Journal.names g.V.Journal.mark
