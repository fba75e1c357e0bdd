use Rattle.std.proofs.Common.{◌≡◌, Some, refl, sym, ◌∙◌, rules}
use Rattle.std.specs.Prelude.{OnErr}
use Rattle.qz_crew.specs.Works.{HasOneOpen}
use Rattle.qz_crew.proofs.TurnLemmas.{claim_none, claim_some, almost_open, almost_all, tried_almost}
use Rattle.qz_crew.proofs.turns.turn.Goals as goal

pub returns-in_default-clause-all : goal.returns-in_default-clause-all
returns-in_default-clause-all g c =
    claim_none c.args.store.now c.args.pass.now c.claim.new.pass c.claim.result c.claim.ensures.of c.requires.free c.claim.ensures.claims c.claim.ensures.rest c.requires.all (search rules)

pub returns-in_err-print-clause-open : goal.returns-in_err-print-clause-open
returns-in_err-print-clause-open g c =
    let one : HasOneOpen c.claim.new.pass.view = almost_open c.claim.new.pass.view c.in-Some.r
    (claim_some c.args.store.now c.args.pass.now c.claim.new.pass c.claim.result c.claim.ensures.of c.requires.free c.claim.ensures.claims c.claim.ensures.rest c.in-Some.r c.requires.all c.in-Some.is) in
    search (rules, one)

pub returns-in_err-put-clause-open : goal.returns-in_err-put-clause-open
returns-in_err-put-clause-open g c =
    let one : HasOneOpen c.put.new.pass.view = almost_open c.put.new.pass.view c.in-Some.r
    (tried_almost c.args.store.now c.claim.new.pass c.put.new.pass c.in-Some.r c.put.ensures.tried
    (claim_some c.args.store.now c.args.pass.now c.claim.new.pass c.claim.result c.claim.ensures.of c.requires.free c.claim.ensures.claims c.claim.ensures.rest c.in-Some.r c.requires.all c.in-Some.is)) in
    search (rules, one)

pub returns-clause-all : goal.returns-clause-all
returns-clause-all g c =
    almost_all c.put.new.pass.view c.in-Some.r
    (tried_almost c.args.store.now c.claim.new.pass c.put.new.pass c.in-Some.r c.put.ensures.tried
    (claim_some c.args.store.now c.args.pass.now c.claim.new.pass c.claim.result c.claim.ensures.of c.requires.free c.claim.ensures.claims c.claim.ensures.rest c.in-Some.r c.requires.all c.in-Some.is))
    c.in_ok-put.ensures.put
