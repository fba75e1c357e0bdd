use Rattle.std.proofs.Common.{Some, length, sym, ap, subst, ◌∙◌, arith}
use Rattle.std.proofs.lemmas.List.{length-map}
use lib.ListN.{get_elem?}
use Rattle.qz_seats.specs.SeatRule.{terms_of}
use Rattle.qz_seats.specs.Answers.{IsClosed}
use Rattle.qz_seats.proofs.Moves.{value_of}
use Rattle.qz_seats.proofs.Opens.{all_home, closes}
use Rattle.qz_seats.proofs.seats.Seats.close.Goals as goal

pub emptied-requires-clause-some : goal.emptied-requires-clause-some
emptied-requires-clause-some g c =
    let J = g.V.Journal.journal in
    let N = g.V.Journal.names in
    let M = g.V.Journal.mark in
    let key = c.self.inside.table.shared.key in
    let t = terms_of J N M key.limit key.seats key.values.value.items in
    let f = c.close_with.ensures.values.2 in
    let all = ap (λ p. p.view.shares) c.pass.view_is ∙ (c.requires.all ∙ sym (ap (λ s. s.terms.seats) c.self.view_is)) in
    let free = ap (λ p. p.view.held) c.pass.view_is ∙ c.requires.free in
    λ k inside. (let h = all_home J N M t f.0 f.1.0 c.pass.inside.seat.id c.pass.inside.seat.me.0 f.1.1 all free k (omega (arith, c.close_with.ensures.counts.1, c.self.invariant.slots_are)) in
    (h.0, f.4 k (Some h.0) h.1))

pub returns : goal.returns
returns g c =
    let J = g.V.Journal.journal in
    let N = g.V.Journal.names in
    let M = g.V.Journal.mark in
    let key = c.self.inside.table.shared.key in
    let t = terms_of J N M key.limit key.seats key.values.value.items in
    let f = c.close_with.ensures.values.2 in
    let all = ap (λ p. p.view.shares) c.pass.view_is ∙ (c.requires.all ∙ sym (ap (λ s. s.terms.seats) c.self.view_is)) in
    let free = ap (λ p. p.view.held) c.pass.view_is ∙ c.requires.free in
    let same = ap (λ p. p.view.terms) c.pass.view_is ∙ (c.requires.of.1 ∙ sym (ap (λ s. s.terms) c.self.view_is)) in
    let values = c.emptied.result.items in
    let count = sym (length-map values Some) ∙ (ap length c.emptied.ensures ∙ (sym f.3 ∙ f.1.0.long)) in
    subst (λ p. IsClosed J N M p.view values) c.pass.view_is
    (closes J N M t f.0 f.1.0 c.pass.inside.seat.id c.pass.inside.seat.me.0 values f.1.1 same all free count
    (λ i value e. value_of values i value (ap (λ xs. get_elem? xs i) c.emptied.ensures ∙ f.4 i (Some value) e)))
