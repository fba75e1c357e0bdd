use Rattle.qz_store.proofs.Showing.{split_is_none}
use Rattle.qz_store.proofs.laws.a_split_is_no_event.Goals as goal

pub returns : goal.returns
returns g c = split_is_none g.V.Journal.journal g.V.Journal.names g.V.Journal.mark
