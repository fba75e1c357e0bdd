use Rattle.std.proofs.Common.{sym, ap, ◌∙◌, arith}
use Rattle.qz_seats.proofs.Draws.{draws_keep}
use Rattle.qz_seats.proofs.seats.Seats.draw.Goals as goal

pub fetch_add-n-requires : goal.fetch_add-n-requires
fetch_add-n-requires g c =
    let tables = ap (λ p. p.table) c.pass.view_is ∙ (c.requires.0 ∙ sym (ap (λ s. s.table) c.self.view_is)) in (
      tables,
      omega (arith, c.self.invariant.words_are),
      draws_keep _ _ _ _ _ _ _ c.self.invariant.lawful c.pass.invariant.live (sym c.pass.invariant.ended_is ∙ c.if-pass.false),
    )
