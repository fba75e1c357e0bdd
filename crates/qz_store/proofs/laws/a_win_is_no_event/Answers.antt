use Rattle.qz_store.proofs.Showing.{win_is_none}
use Rattle.qz_store.proofs.laws.a_win_is_no_event.Goals as goal

pub returns : goal.returns
returns g c = win_is_none g.V.Journal.journal g.V.Journal.names g.V.Journal.mark
