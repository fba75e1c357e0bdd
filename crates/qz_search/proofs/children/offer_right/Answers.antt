use Rattle.std.proofs.Common.{◌≡◌, ℕ, List, [], ◌∷◌, Contains, sym, ap, subst, ◌∙◌, arith}
use Rattle.std.specs.List.{filter, flat_map}
use Rattle.qz_circ.specs.Places.{PlaceParts, places}
use Rattle.qz_circ.specs.ProgramCircuits.{ProgramCircuit, cost}
use Rattle.qz_search.specs.Costs.{rule_cost}
use Rattle.qz_circ.specs.Replacement.{replaced, children_by}
use Rattle.qz_search.specs.Offers.{is_new, offered_to}
use Rattle.qz_search.proofs.Offering.{offering_weights, each_step, each_end, as_flat}
use Rattle.qz_search.proofs.children.offer_right.Goals as goal

pub offer_at-requires-clause-place : goal.offer_at-requires-clause-place
offer_at-requires-clause-place c =
    subst (λ ps. Contains ps c.place-item.result) c.requires.found (c.loop-place.place-index, c.loop-place-test.true, sym c.place-item.is)

pub loop-place-preserved : goal.loop-place-preserved
loop-place-preserved c =
    let next : PlaceParts → List ProgramCircuit = λ p. replaced c.args.c.now.gates.now c.args.rule.now.right.now p ∷ [] in
    let weights = offering_weights c.loop-place.queue c.args.queue.now _ _ c.loop-place.invariant.0 in
    let offered : List ℕ → Type 0 = λ ws. c.offer_at.new.queue ≡ offered_to c.loop-place.queue (filter (is_new ws c.args.test.now.seen c.args.test.now.most) (next c.place-item.result)) in
    (each_step (is_new c.args.queue.now.weights c.args.test.now.seen c.args.test.now.most) next c.args.found.now c.loop-place.queue c.args.queue.now c.offer_at.new.queue c.loop-place.place-index c.place-item.result c.loop-place.invariant.0 c.loop-place-test.true c.place-item.is (subst offered weights c.in_ok-offer_at.ensures.offered), c.in_ok-offer_at.ensures.bar)

pub returns-clause-offered : goal.returns-clause-offered
unfolding children_by
returns-clause-offered c =
    let next : PlaceParts → List ProgramCircuit = λ p. replaced c.args.c.now.gates.now c.args.rule.now.right.now p ∷ [] in
    let test = is_new c.args.queue.now.weights c.args.test.now.seen c.args.test.now.most in
    let over = c.loop-place-test.false in
    each_end test next c.args.found.now c.loop-place.queue c.args.queue.now c.loop-place.place-index c.loop-place.invariant.0 (omega arith)
    ∙ ap (λ ps. offered_to c.args.queue.now (filter test (flat_map next ps))) c.requires.found
    ∙ ap (λ cs. offered_to c.args.queue.now (filter test cs)) (sym (as_flat (replaced c.args.c.now.gates.now c.args.rule.now.right.now) (places c.args.rule.now.left.now c.args.rule.now.right.now c.args.c.now.gates.now)))

pub offer_at-requires-clause-cost : goal.offer_at-requires-clause-cost
offer_at-requires-clause-cost c =
    c.requires.cost ∙ (λ i. cost (sym (offering_weights c.loop-place.queue c.args.queue.now _ _ c.loop-place.invariant.0) i) c.args.c.now.gates.now)

pub offer_at-requires-clause-rule : goal.offer_at-requires-clause-rule
offer_at-requires-clause-rule c =
    c.requires.rule ∙ (λ i. rule_cost (sym (offering_weights c.loop-place.queue c.args.queue.now _ _ c.loop-place.invariant.0) i) c.args.rule.now.left.now)
