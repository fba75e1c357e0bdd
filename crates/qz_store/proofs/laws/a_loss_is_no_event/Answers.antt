use Rattle.qz_store.proofs.Showing.{loss_is_none}
use Rattle.qz_store.proofs.laws.a_loss_is_no_event.Goals as goal

pub returns : goal.returns
returns g c = loss_is_none g.V.Journal.journal g.V.Journal.names g.V.Journal.mark
