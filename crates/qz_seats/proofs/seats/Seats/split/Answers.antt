use Rattle.std.proofs.Common.{sym, ap, ◌∙◌, arith}
use Rattle.qz_seats.proofs.Joins.{splits_keep}
use Rattle.qz_seats.proofs.seats.Seats.split.Goals as goal

pub split_seat-seat-requires : goal.split_seat-seat-requires
split_seat-seat-requires g c =
    let tables = ap (λ p. p.table) c.pass.view_is ∙ (c.requires.of.0 ∙ sym (ap (λ s. s.table) c.self.view_is)) in (
      tables,
      omega (arith, c.self.invariant.words_are),
      splits_keep _ _ _ _ _ _ (let shares = ap (λ p. p.view.shares) c.pass.view_is in omega (arith, c.requires.two)) (ap (λ p. p.view.held) c.pass.view_is ∙ c.requires.free),
    )
