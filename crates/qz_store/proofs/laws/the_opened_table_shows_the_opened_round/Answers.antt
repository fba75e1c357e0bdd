use Rattle.qz_store.proofs.Traces.{opened_shows}
use Rattle.qz_store.proofs.laws.the_opened_table_shows_the_opened_round.Goals as goal

pub returns-clause-shown : goal.returns-clause-shown
returns-clause-shown g c = opened_shows g.V.Journal.journal g.V.Journal.names g.V.Journal.mark
