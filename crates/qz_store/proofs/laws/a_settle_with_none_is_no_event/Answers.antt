use Rattle.qz_store.proofs.Showing.{none_entry_is_none}
use Rattle.qz_store.proofs.laws.a_settle_with_none_is_no_event.Goals as goal

pub returns : goal.returns
returns g c = none_entry_is_none g.V.Journal.journal g.V.Journal.names g.V.Journal.mark
