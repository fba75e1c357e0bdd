use Rattle.qz_store.proofs.Draws.{draw_is_claim}
use Rattle.qz_store.proofs.laws.a_draw_is_a_claim.Goals as goal

pub returns : goal.returns
returns g c = draw_is_claim g.V.Journal.journal g.V.Journal.names g.V.Journal.mark
