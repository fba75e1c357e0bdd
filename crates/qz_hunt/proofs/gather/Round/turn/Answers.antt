use Rattle.std.proofs.Common.{◌≡◌, sym, ap, ◌∙◌, arith}
use Rattle.qz_circ.specs.Vectors.{lists_of}
use Rattle.qz_hunt.specs.Gathered.{RoundParts, gathered}
use Rattle.qz_hunt.proofs.GatherLemmas.{circuit_at, drew_one}
use Rattle.qz_hunt.proofs.gather.Round.turn.Goals as goal

pub returns-clause-all : goal.returns-clause-all
returns-clause-all g c =
    let inside = c.self.inside in
    let r : RoundParts = record { search = inside.search; batch = lists_of inside.batch.items; seats = inside.seats } in
    let view : c.args.self.now ≡ r = sym c.self.view_is in
    let n = c.in-Some.n in
    let old = c.args.pass.now.view in
    let new = c.draw.new.pass.view in
    let limit = ap (λ t. t.limit) c.requires.of.1 ∙ ap (λ r. r.seats.terms.limit) view ∙ c.self.invariant.limit in
    let circuit = c.deref.result.now in
    let is = circuit_at inside.batch.items n c.index.result.now circuit (omega (arith, limit, c.in-Some.ensures.drew.1)) c.index.ensures c.deref.ensures.value in
    drew_one r c.args.queue.now c.offer_children.new.queue old new n circuit limit c.in-Some.ensures.drew is (c.requires.all ∙ (λ i. gathered (view i) old.drawn)) c.in_ok-offer_children.ensures
    ∙ (λ i. gathered (sym view i) new.drawn)
