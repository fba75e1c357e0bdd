use Rattle.std.proofs.Common.{◌<◌, sym, ap, subst, ◌∙◌, arith}
use Rattle.qz_seats.specs.Views.{draws}
use Rattle.qz_seats.specs.Parts.{carried}
use Rattle.qz_seats.proofs.Joins.{joins_keep}
use Rattle.qz_seats.proofs.seats.Seats.join.Goals as goal

pub join_seat-requires : goal.join_seat-requires
join_seat-requires g c =
    let table = ap (λ s. s.table) c.self.view_is in
    let free = ap (λ p. p.view.held) c.pass.view_is ∙ c.requires.free in
    let other_free = ap (λ p. p.view.held) c.other.view_is ∙ c.requires.other_free in (
      ap (λ p. p.table) c.pass.view_is ∙ (c.requires.of.0 ∙ sym table),
      ap (λ p. p.table) c.other.view_is ∙ (c.requires.other.0 ∙ sym table),
      c.other.invariant.slots ∙ ap carried other_free,
      omega (arith, c.self.invariant.words_are),
      joins_keep _ _ _ _ _ _ _ _ c.pass.invariant.live free other_free,
    )

pub look-requires-clause-of : goal.look-requires-clause-of
look-requires-clause-of g c = c.join_seat.ensures.0 ∙ (ap (λ p. p.table) c.pass.view_is ∙ c.requires.of.0)

pub look-requires-clause-live : goal.look-requires-clause-live
look-requires-clause-live g c =
    let shares = ap (λ m. m.0.shares) c.join_seat.ensures.2 in omega (arith, c.pass.invariant.live)

pub returns-clause-once : goal.returns-clause-once
returns-clause-once g c = λ x. subst (λ m. draws x m.0 < 2) (sym c.look.ensures.look.0) (c.look.ensures.look.1 x)
