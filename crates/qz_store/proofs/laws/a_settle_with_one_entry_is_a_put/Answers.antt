use Rattle.qz_store.proofs.Draws.{entry_is_put, entry_is_pending}
use Rattle.qz_store.proofs.laws.a_settle_with_one_entry_is_a_put.Goals as goal

pub returns-clause-is_put : goal.returns-clause-is_put
returns-clause-is_put g c = entry_is_put g.V.Journal.journal g.V.Journal.names g.V.Journal.mark

pub returns-clause-pending : goal.returns-clause-pending
returns-clause-pending g c = entry_is_pending g.V.Journal.journal g.V.Journal.names g.V.Journal.mark
