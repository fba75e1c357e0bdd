use Rattle.std.proofs.Common.{◌+◌, sym, ap, subst, ◌∙◌, arith}
use Rattle.atomic_table.specs.Table.{Allows}
use Rattle.qz_seats.specs.SeatRule.{count_of, terms_of, IsAt, IsRuled}
use Rattle.qz_seats.specs.Steps.{IsSettleSame}
use Rattle.qz_seats.proofs.Settles.{same_keeps}
use Rattle.qz_seats.proofs.Passes.{put_is}
use Rattle.qz_seats.proofs.seats.Seats.settle_same.Goals as goal

pub store-requires : goal.store-requires
store-requires g c =
    let J = g.V.Journal.journal in
    let N = g.V.Journal.names in
    let M = g.V.Journal.mark in
    let shared = c.self.inside.table.shared in
    let t = terms_of J N M shared.key.limit shared.key.seats shared.key.values.value.items in
    let me = c.pass.inside.seat.me in
    let tables = ap (λ p. p.table) c.pass.view_is ∙ (c.requires.of.0 ∙ sym (ap (λ s. s.table) c.self.view_is)) in
    let held = ap (λ p. p.view.held) c.pass.view_is ∙ c.requires.held in
    let count = ap (λ p. count_of p.view.terms) c.pass.view_is ∙ (ap count_of c.requires.of.1 ∙ sym (ap (λ s. count_of s.terms) c.self.view_is)) in
    let inside = c.pass.invariant.inside (c.args.i, J c.args.value) held in
    let is = put_is me _ _ _ _ c.pass.invariant.slots held c.exchange-old.ensures.3 in (
      c.exchange-old.ensures.0 ∙ tables,
      omega (arith, c.self.invariant.words_are),
      subst (λ m. Allows (IsRuled J N M t) shared.table_id.slots c.exchange-old.new.seat.id m (c.args.i + 1) (λ _. 0) (λ _. IsSettleSame m)) (sym is)
          (same_keeps J N M t _ _ c.args.i me.0 c.args.value c.pass.invariant.live held (subst (λ p. IsAt J N M p.view.terms c.args.i (J c.args.value) c.args.value) (sym c.pass.view_is) c.requires.same)),
    )
