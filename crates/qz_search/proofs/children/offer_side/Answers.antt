use Rattle.std.proofs.Common.{◌≡◌, ◌<◌, ℕ, List, get_or, length, sym, subst, ◌∙◌}
use Rattle.std.specs.List.{AllByRecursion, filter}
use Rattle.std.proofs.lemmas.Grind.{get_or_default_zero}
use Rattle.qz_circ.specs.Circuit.{Circuit}
use Rattle.qz_circ.specs.Places.{places, all_places}
use Rattle.qz_circ.specs.ProgramCircuits.{ProgramCircuit, cost}
use Rattle.qz_search.specs.Costs.{rule_cost}
use Rattle.qz_circ.specs.Replacement.{numbered, children_by}
use Rattle.qz_search.specs.declared.table.Side.{Side}
use Rattle.qz_search.specs.Offers.{is_new, offered_to}
use Rattle.qz_search.specs.Tables.{IsRule, IsRight, IsSide}
use Rattle.qz_search.proofs.Offering.{offering_weights, each_step}
use Rattle.qz_search.proofs.Alike.{item_of}
use Rattle.qz_search.proofs.TableLaws.{right_places}
use Rattle.qz_search.proofs.children.offer_side.Goals as goal

right_of : (circuits : List Circuit) (side : Side) (rights : List ℕ) (i : ℕ) → IsSide circuits side → rights ≡ side.rights.items → i < length rights → IsRule side.left.items (numbered circuits (get_or rights i 0))
right_of circuits side rights i h e less =
    let each = subst (AllByRecursion (IsRight circuits side.left.items)) (sym e) h.rights in
    (item_of (IsRight circuits side.left.items) rights i (get_or rights i 0) each less (sym (get_or_default_zero rights i (get_or rights i 0) less))).1

pub offer_right-requires-clause-found : goal.offer_right-requires-clause-found
offer_right-requires-clause-found c =
    let side = c.args.side.now in
    let circuits = c.args.circuits.now in
    let right = numbered circuits (get_or c.as_slice-rights.result.now c.loop-k.k-index 0) in
    let rule = right_of circuits side c.as_slice-rights.result.now c.loop-k.k-index c.requires.side c.as_slice-rights.ensures.value c.loop-k-test.true in
    let left = c.as_slice-left.ensures.value in
    c.deref.ensures.value ∙ c.in_ok-found.ensures ∙ (λ k. all_places (left k) c.args.c.now.gates.now) ∙ sym (right_places side.left.items right c.args.c.now.gates.now rule)
    ∙ (λ k. places (sym left k) (sym c.at-right.ensures k) c.args.c.now.gates.now)

pub loop-k-preserved : goal.loop-k-preserved
loop-k-preserved c =
    let side = c.args.side.now in
    let rights = c.as_slice-rights.result.now in
    let i = c.loop-k.k-index in
    let k = get_or rights i 0 in
    let test = is_new c.args.queue.now.weights c.args.test.now.seen c.args.test.now.most in
    let weights = offering_weights c.loop-k.queue c.args.queue.now _ _ c.loop-k.invariant.0 in
    let next : ℕ → List ProgramCircuit = λ k. children_by side.left.items (numbered c.args.circuits.now k) c.args.c.now.gates.now in
    let P : List ℕ → List ProgramCircuit → Type 0 = λ ws cs. c.offer_right.new.queue ≡ offered_to c.loop-k.queue (filter (is_new ws c.args.test.now.seen c.args.test.now.most) cs) in (
      each_step test next rights c.loop-k.queue c.args.queue.now c.offer_right.new.queue i k c.loop-k.invariant.0 c.loop-k-test.true (sym (get_or_default_zero rights i k c.loop-k-test.true))
          (subst (P c.args.queue.now.weights) (λ j. children_by (c.as_slice-left.ensures.value j) (c.at-right.ensures j) c.args.c.now.gates.now) (subst (λ ws. P ws (children_by c.as_slice-left.result.now c.at-right.result.now c.args.c.now.gates.now)) weights c.in_ok-offer_right.ensures.offered)),
      c.in_ok-offer_right.ensures.bar,
    )

pub offer_right-requires-clause-cost : goal.offer_right-requires-clause-cost
offer_right-requires-clause-cost c =
    c.requires.cost ∙ (λ i. cost (sym (offering_weights c.loop-k.queue c.args.queue.now _ _ c.loop-k.invariant.0) i) c.args.c.now.gates.now)

pub offer_right-requires-clause-rule : goal.offer_right-requires-clause-rule
offer_right-requires-clause-rule c =
    c.rule_cost-cost.ensures ∙ (λ i. rule_cost ((c.weights.ensures.value ∙ sym (offering_weights c.loop-k.queue c.args.queue.now _ _ c.loop-k.invariant.0)) i) c.as_slice-left.result.now)
