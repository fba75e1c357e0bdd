use Rattle.std.proofs.Common.{◌≡◌, ◌≢◌, ℕ, [], ◌∷◌, ◌++◌, ◌<◌, ◌+◌, ◌-◌, Some, length, length-append, slice_get, sym, ap, subst, ◌∙◌, arith}
use Rattle.atomic_table.specs.Table.{Allows}
use Rattle.qz_seats.specs.Views.{draws, with_item, adding}
use Rattle.qz_seats.specs.SeatRule.{count_of, terms_of, IsAt, IsRuled}
use Rattle.qz_seats.specs.Steps.{IsSettleOne}
use Rattle.qz_seats.proofs.Settles.{one_keeps}
use Rattle.qz_seats.proofs.Passes.{put_is, settled_is, giving_pass}
use Rattle.qz_seats.proofs.seats.Seats.settle_one.Goals as goal

pub store-requires : goal.store-requires
store-requires g c =
    let J = g.V.Journal.journal in
    let N = g.V.Journal.names in
    let M = g.V.Journal.mark in
    let shared = c.self.inside.table.shared in
    let t = terms_of J N M shared.key.limit shared.key.seats shared.key.values.value.items in
    let me = c.pass.inside.seat.me in
    let more = c.requires.more in
    let tables = ap (λ p. p.table) c.pass.view_is ∙ (c.requires.of.0 ∙ sym (ap (λ s. s.table) c.self.view_is)) in
    let held = ap (λ p. p.view.held) c.pass.view_is ∙ more.held in
    let count = ap (λ p. count_of p.view.terms) c.pass.view_is ∙ (ap count_of c.requires.of.1 ∙ sym (ap (λ s. count_of s.terms) c.self.view_is)) in
    let inside = c.pass.invariant.inside (c.args.i, more.lifted) held in
    let is = put_is me _ _ _ _ c.pass.invariant.slots held c.exchange-old.ensures.3 in (
      c.exchange-old.ensures.0 ∙ tables,
      omega (arith, c.self.invariant.words_are),
      subst (λ m. Allows (IsRuled J N M t) shared.table_id.slots c.exchange-old.new.seat.id m (c.args.i + 1) (λ _. 0) (λ _. IsSettleOne J m)) (sym is)
          (one_keeps J N M t _ _ c.args.i me.0 c.args.value more.lifted more.entry c.self.invariant.lawful.apart c.pass.invariant.live held
          (subst (λ p. IsAt J N M p.view.terms c.args.i (more.lifted ++ more.entry ∷ []) c.args.value) (sym c.pass.view_is) more.at)
          (subst (λ p. p.view.terms.names ≢ [] → ((d : ℕ) × (slice_get p.view.terms.names d ≡ Some more.entry) × (0 < draws d p.view)) × (with_item more.entry p.view ≡ 0)) (sym c.pass.view_is) more.named)),
    )

pub invariant_of-pass : goal.invariant_of-pass
invariant_of-pass g c =
    let me = c.pass.inside.seat.me in
    let more = c.requires.more in
    let held = ap (λ p. p.view.held) c.pass.view_is ∙ more.held in
    let put = put_is me _ _ _ _ c.pass.invariant.slots held c.exchange-old.ensures.3 in
    let long : (c.len-place.result - 1) + 1 ≡ length (g.V.Journal.journal c.args.value) = omega (arith, c.len-place.ensures, ap length more.at.journal_is, length-append more.lifted (more.entry ∷ [])) in
    let is = settled_is g.V.Journal.journal me _ _ c.args.i more.lifted more.entry c.args.value _ _ held more.at.journal_is put c.store.ensures.2 long c.entry-item.ensures in
    giving_pass me _ _ _ c.pass.invariant (ap (λ m. m.0.shares) is) (ap (λ m. m.0.ended) is) (ap (λ m. m.0.held) is) (ap (λ m. m.1) is)

pub returns-clause-of : goal.returns-clause-of
returns-clause-of g c =
    let me = c.pass.inside.seat.me in
    let more = c.requires.more in
    let held = ap (λ p. p.view.held) c.pass.view_is ∙ more.held in
    let put = put_is me _ _ _ _ c.pass.invariant.slots held c.exchange-old.ensures.3 in
    let long : (c.len-place.result - 1) + 1 ≡ length (g.V.Journal.journal c.args.value) = omega (arith, c.len-place.ensures, ap length more.at.journal_is, length-append more.lifted (more.entry ∷ [])) in
    let is = settled_is g.V.Journal.journal me _ _ c.args.i more.lifted more.entry c.args.value _ _ held more.at.journal_is put c.store.ensures.2 long c.entry-item.ensures in (
      c.store.ensures.0 ∙ (c.exchange-old.ensures.0 ∙ (ap (λ p. p.table) c.pass.view_is ∙ c.requires.of.0)),
      ap (λ m. m.0.terms) is ∙ (ap (λ p. p.view.terms) c.pass.view_is ∙ c.requires.of.1),
    )

pub returns-clause-view : goal.returns-clause-view
returns-clause-view g c =
    let me = c.pass.inside.seat.me in
    let more = c.requires.more in
    let held = ap (λ p. p.view.held) c.pass.view_is ∙ more.held in
    let put = put_is me _ _ _ _ c.pass.invariant.slots held c.exchange-old.ensures.3 in
    let long : (c.len-place.result - 1) + 1 ≡ length (g.V.Journal.journal c.args.value) = omega (arith, c.len-place.ensures, ap length more.at.journal_is, length-append more.lifted (more.entry ∷ [])) in
    let is = settled_is g.V.Journal.journal me _ _ c.args.i more.lifted more.entry c.args.value _ _ held more.at.journal_is put c.store.ensures.2 long c.entry-item.ensures in
    ap (λ m. m.0) is ∙ ap (λ p. adding p.view (record { shard = c.args.i; place = c.len-place.result - 1; item = c.entry-item.result })) c.pass.view_is
