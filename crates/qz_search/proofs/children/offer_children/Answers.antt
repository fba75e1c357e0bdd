use Rattle.std.proofs.Common.{◌≡◌, ℕ, List, sym, subst, ◌∙◌, arith}
use Rattle.std.specs.List.{AllByRecursion, filter, flat_map}
use Rattle.qz_circ.specs.Circuit.{Circuit}
use Rattle.qz_circ.specs.ProgramCircuits.{ProgramCircuit, cost}
use Rattle.qz_search.specs.declared.table.Side.{Side}
use Rattle.qz_search.specs.Offers.{is_new, offered_to}
use Rattle.qz_search.specs.Tables.{children_of, IsSide}
use Rattle.qz_search.proofs.Offering.{offering_weights, each_step, each_end}
use Rattle.qz_search.proofs.Alike.{item_of}
use Rattle.qz_search.proofs.children.offer_children.Goals as goal

pub offer_side-requires-clause-side : goal.offer_side-requires-clause-side
offer_side-requires-clause-side c =
    let sides = c.sides-sides.result.now in
    let each = subst (λ circuits. AllByRecursion (IsSide circuits) sides) (sym c.circuits-circuits.ensures) c.sides-sides.ensures.each in
    item_of (IsSide c.circuits-circuits.result.now) sides c.loop-side.side-index c.side-item.result each c.loop-side-test.true c.side-item.is

pub loop-side-preserved : goal.loop-side-preserved
loop-side-preserved c =
    let next : Side → List ProgramCircuit = λ side. children_of c.circuits-circuits.result.now side c.args.c.now in
    let weights = offering_weights c.loop-side.queue c.args.queue.now _ _ c.loop-side.invariant.0 in
    let offered : List ℕ → Type 0 = λ ws. c.offer_side.new.queue ≡ offered_to c.loop-side.queue (filter (is_new ws c.args.test.now.seen c.args.test.now.most) (next c.side-item.result)) in
    (each_step (is_new c.args.queue.now.weights c.args.test.now.seen c.args.test.now.most) next c.sides-sides.result.now c.loop-side.queue c.args.queue.now c.offer_side.new.queue c.loop-side.side-index c.side-item.result c.loop-side.invariant.0 c.loop-side-test.true c.side-item.is (subst offered weights c.in_ok-offer_side.ensures.offered), c.in_ok-offer_side.ensures.bar)

pub returns : goal.returns
returns c =
    let next : List Circuit → Side → List ProgramCircuit = λ circuits side. children_of circuits side c.args.c.now in
    let test = is_new c.args.queue.now.weights c.args.test.now.seen c.args.test.now.most in
    let over = c.loop-side-test.false in
    each_end test (next c.circuits-circuits.result.now) c.sides-sides.result.now c.loop-side.queue c.args.queue.now c.loop-side.side-index c.loop-side.invariant.0 (omega arith)
    ∙ (λ i. offered_to c.args.queue.now (filter test (flat_map (next (c.circuits-circuits.ensures i)) (c.sides-sides.ensures.same i))))

pub offer_side-requires-clause-cost : goal.offer_side-requires-clause-cost
offer_side-requires-clause-cost c =
    c.cost.ensures ∙ (λ i. cost ((c.weights.ensures.value ∙ sym (offering_weights c.loop-side.queue c.args.queue.now _ _ c.loop-side.invariant.0)) i) c.args.c.now)
