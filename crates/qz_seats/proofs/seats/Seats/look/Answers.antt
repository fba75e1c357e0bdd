use Rattle.std.proofs.Common.{sym, ap, ◌∙◌, arith}
use Rattle.qz_seats.proofs.Draws.{looks_keep}
use Rattle.qz_seats.proofs.seats.Seats.look.Goals as goal

pub load-requires : goal.load-requires
load-requires g c = (
  c.requires.of ∙ sym (ap (λ s. s.table) c.self.view_is),
  omega (arith, c.self.invariant.words_are),
  looks_keep _ _ _ _ _ _ _ c.requires.live,
)
