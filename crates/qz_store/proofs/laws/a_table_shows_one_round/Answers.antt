use Rattle.qz_store.proofs.Traces.{one_round}
use Rattle.qz_store.proofs.laws.a_table_shows_one_round.Goals as goal

pub returns : goal.returns
returns g c = one_round g.V.Journal.journal g.V.Journal.names g.V.Journal.mark
