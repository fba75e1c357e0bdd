use Rattle.std.proofs.Common.{◌≡◌, ◌<◌, ℕ, length, ap, subst, ◌∙◌, arith}
use Rattle.std.specs.Prelude.{IfOk}
use Rattle.std.proofs.lemmas.List.{length-map}
use Rattle.qz_circ.specs.Vectors.{lists_of}
use Rattle.qz_circ.specs.Search.{earliest, is_short}
use Rattle.std.specs.List.{filter}
use Rattle.qz_seats.specs.Views.{draws}
use Rattle.qz_hunt.specs.Gathered.{RoundParts, IsGathered}
use Rattle.qz_hunt.proofs.GatherLemmas.{gathered_all}
use Rattle.qz_hunt.proofs.rounds.shared_round.Goals as goal

pub returns : goal.returns
returns g c =
    let search = c.args.search in
    let batch = lists_of c.args.batch.items in
    let r : RoundParts = record { search = search; batch = batch; seats = c.in_ok-seats.seats } in
    let view = c.crew-pass.result.0.view in
    let found = c.in_ok-found.field-0 in
    let all : IsGathered r view found = subst (λ x. IfOk x (IsGathered r view)) c.in_ok-found.was c.crew-pass.ensures.gathered in
    let limit : view.terms.limit ≡ length batch =
    omega (arith, ap (λ t. t.limit) c.crew-pass.ensures.free.0.1, ap (λ t. t.limit) c.in_ok-seats.ensures.terms, c.len-limit.ensures, c.args.batch.ok.0, length-map c.args.batch.items (λ v. v.items)) in
    let drawn : (n : ℕ) → n < length batch → draws n view ≡ 1 = λ n inside. c.close.ensures.ended all.ended n (omega (arith, inside, limit)) in
    let gathered = gathered_all r found view all.all drawn in
    c.in_ok-end_round.ensures ∙ (λ i. record search { queue = gathered i; best = earliest (gathered i).weights search.best (filter is_short (gathered i).list) })
