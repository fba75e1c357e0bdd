use Rattle.std.proofs.Common.{◌≡◌, ℕ, ◌+◌, ◌≤◌, Some, length, slice_index, sym, ap, subst, ◌∙◌, arith}
use Rattle.std.proofs.lemmas.List.{length-map, take-replicate}
use Rattle.atomic_table.specs.Table.{opening}
use Rattle.qz_seats.specs.Views.{first_view}
use Rattle.qz_seats.specs.SeatRule.{terms_of, IsRuled}
use Rattle.qz_seats.proofs.Moves.{zeros_at}
use Rattle.qz_seats.proofs.Opens.{begins, lawful_terms, made}
use Rattle.qz_seats.proofs.seats.Seats.open.Goals as goal

pub new-requires : goal.new-requires
new-requires g c =
    let J = g.V.Journal.journal in
    let N = g.V.Journal.names in
    let M = g.V.Journal.mark in
    let values = c.args.values.items in
    let words = c.split_at.result.0.now in
    let m = c.len-count.result + 1 in
    let few : m ≤ 17 = omega (arith, c.len-count.ensures, c.requires.values) in
    let zeros : (k : ℕ) → slice_index words k ≡ 0 = λ k. subst (λ xs. slice_index xs k ≡ 0) (sym (c.split_at.ensures.front ∙ take-replicate m 17 0 few)) (zeros_at m k) in
    let long : length words ≡ length values + 1 = omega (arith, c.split_at.ensures.front_len, c.len-count.ensures, c.args.values.ok) in
    subst (λ v. IsRuled J N M (terms_of J N M c.args.limit c.args.seats v.items) (opening words c.filled.result.items (first_view (terms_of J N M c.args.limit c.args.seats v.items)))) (sym c.of.ensures)
    (subst (λ xs. IsRuled J N M (terms_of J N M c.args.limit c.args.seats values) (opening words xs (first_view (terms_of J N M c.args.limit c.args.seats values)))) (sym c.filled.ensures)
    (begins J N M c.args.limit c.args.seats values words c.requires.some_seat c.requires.names.same long zeros))

pub invariant_of-result : goal.invariant_of-result
invariant_of-result g c =
    let J = g.V.Journal.journal in
    let N = g.V.Journal.names in
    let M = g.V.Journal.mark in
    let lawful = lawful_terms J N M c.args.limit c.args.seats c.args.values.items c.requires.names c.requires.limit c.requires.some_seat c.requires.few_seats (omega (arith, c.requires.values, c.args.values.ok)) in
    let ok = c.in-Ok-new.ensures.ok in
    let key = ok.5 in
    let length_is : length c.args.values.items ≡ c.args.values.len = omega (arith, c.args.values.ok) in
    made J N M c.args.limit c.args.seats c.args.values.items _ _ _ _ _ _ _ lawful
    (ap (λ k. k.limit) key)
    (ap (λ k. k.seats) key)
    (ap (λ k. k.values.value.items) key ∙ ap (λ v. v.items) c.of.ensures)
    (ok.0 ∙ omega (arith, c.split_at.ensures.front_len, c.len-count.ensures))
    (ok.1 ∙ (ap length c.filled.ensures ∙ length-map c.args.values.items Some))
    c.in-Ok.ensures.items
    (omega (arith, c.in-Ok.ensures.capacity, c.len-count.ensures))
