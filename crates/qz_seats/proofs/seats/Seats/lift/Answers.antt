use Rattle.std.proofs.Common.{◌∷◌, Some, IsSome, sym, refl, ap, subst, ◌∙◌, arith, rules}
use Rattle.atomic_table.specs.Table.{rest}
use Rattle.qz_seats.specs.Views.{taking}
use Rattle.qz_seats.specs.SeatRule.{count_of, IsAt}
use Rattle.qz_seats.specs.Steps.{IsLifted}
use Rattle.qz_seats.proofs.Lifts.{lifts_keep}
use Rattle.qz_seats.proofs.Passes.{front, some_same, taken_is, taking_pass}
use Rattle.qz_seats.proofs.seats.Seats.lift.Goals as goal

pub compare_exchange-requires : goal.compare_exchange-requires
compare_exchange-requires g c =
    let tables = ap (λ p. p.table) c.pass.view_is ∙ (c.requires.of.0 ∙ sym (ap (λ s. s.table) c.self.view_is)) in
    let count = ap (λ s. count_of s.terms) c.self.view_is in (
      tables,
      omega (arith, c.self.invariant.words_are, c.requires.within),
      lifts_keep _ _ _ _ _ _ _ _ c.pass.invariant.live (ap (λ p. p.view.held) c.pass.view_is ∙ c.requires.free) (omega (arith, c.requires.within)),
    )

pub exchange-requires : goal.exchange-requires
exchange-requires g c =
    let tables = ap (λ p. p.table) c.pass.view_is ∙ (c.requires.of.0 ∙ sym (ap (λ s. s.table) c.self.view_is)) in
    let won = c.compare_exchange.ensures.2.won c.if-compare_exchange-ne0.false c.args.i refl in
    let slots = ap (λ m. m.1) won.becomes in
    (c.compare_exchange.ensures.0 ∙ tables, (Some won.value, slots ∙ ap (λ l. (c.args.i, Some won.value) ∷ rest l) (sym slots)))

pub unwrap-value-requires : goal.unwrap-value-requires
unwrap-value-requires g c =
    let won = c.compare_exchange.ensures.2.won c.if-compare_exchange-ne0.false c.args.i refl in
    let is = front _ _ _ _ _ _ (sym c.exchange.ensures.2 ∙ ap (λ m. m.1) won.becomes) in
    subst IsSome (sym is) (search rules)

pub invariant_of-pass-2 : goal.invariant_of-pass-2
invariant_of-pass-2 g c =
    let won = c.compare_exchange.ensures.2.won c.if-compare_exchange-ne0.false c.args.i refl in
    let free = ap (λ p. p.view.held) c.pass.view_is ∙ c.requires.free in
    let is = taken_is c.pass.inside.seat.me _ _ _ _ _ c.pass.invariant.slots free won.becomes c.exchange.ensures.3 in
    let terms = ap (λ p. count_of p.view.terms) c.pass.view_is ∙ ap count_of c.requires.of.1 in
    taking_pass c.pass.inside.seat.me _ _ _ _ _ c.pass.invariant (omega (arith, c.requires.within)) is

pub returns-clause-of : goal.returns-clause-of
returns-clause-of g c =
    let won = c.compare_exchange.ensures.2.won c.if-compare_exchange-ne0.false c.args.i refl in
    let free = ap (λ p. p.view.held) c.pass.view_is ∙ c.requires.free in
    let is = taken_is c.pass.inside.seat.me _ _ _ _ _ c.pass.invariant.slots free won.becomes c.exchange.ensures.3 in (
      c.exchange.ensures.0 ∙ (c.compare_exchange.ensures.0 ∙ (ap (λ p. p.table) c.pass.view_is ∙ c.requires.of.0)),
      ap (λ m. m.0.terms) is ∙ (ap (λ p. p.view.terms) c.pass.view_is ∙ c.requires.of.1),
    )

pub returns-clause-gives : goal.returns-clause-gives
returns-clause-gives g c =
    let J = g.V.Journal.journal in
    let N = g.V.Journal.names in
    let M = g.V.Journal.mark in
    let won = c.compare_exchange.ensures.2.won c.if-compare_exchange-ne0.false c.args.i refl in
    let free = ap (λ p. p.view.held) c.pass.view_is ∙ c.requires.free in
    let is = taken_is c.pass.inside.seat.me _ _ _ _ _ c.pass.invariant.slots free won.becomes c.exchange.ensures.3 in
    let out = front _ _ _ _ _ _ (sym c.exchange.ensures.2 ∙ ap (λ m. m.1) won.becomes) in
    let same = some_same _ _ (sym out ∙ c.unwrap-value.ensures) in (
      ap (λ m. m.0) is ∙ (ap (λ p. taking p.view c.args.i (J won.value)) c.pass.view_is ∙ ap (λ x. taking c.args.pass.now.view c.args.i (J x)) same),
      subst (λ x. IsAt J N M c.args.pass.now.view.terms c.args.i (J x) x) same (subst (λ p. IsAt J N M p.view.terms c.args.i (J won.value) won.value) c.pass.view_is won.at),
      subst (λ x. IsLifted c.args.pass.now.view c.args.i (J x)) same (subst (λ p. IsLifted p.view c.args.i (J won.value)) c.pass.view_is won.lifted),
    )
