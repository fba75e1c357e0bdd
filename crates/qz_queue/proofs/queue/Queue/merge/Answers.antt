use Rattle.std.proofs.Common.{◌∙◌, ◌++◌, sym, subst}
use Rattle.std.specs.Vec.Iter.{into_iter_items}
use Rattle.qz_circ.specs.ProgramCircuits.{cost}
use Rattle.qz_circ.specs.Queue.{firsts}
use Rattle.qz_queue.specs.Circuits.{circuits_of, ArePriced}
use Rattle.qz_queue.proofs.QueueLists.{offer_step}
use Rattle.qz_queue.proofs.queue.Queue.merge.Goals as goal

pub offer_from-from-requires : goal.offer_from-from-requires
offer_from-from-requires c =
    (subst (ArePriced c.args.self.now.weights) c.in-Some.ensures.steps.0 c.loop-c.invariant.4).0 ∙ (λ i. cost (sym c.loop-c.invariant.1 i) c.in-Some.c.gates.items)

pub loop-c-preserved : goal.loop-c-preserved
loop-c-preserved c =
    let old = c.loop-c.self in
    let turn = offer_step old c.offer_from-from.new.self c.in-Some.c.gates.items (circuits_of (into_iter_items c.next.new.self)) c.offer_from-from.ensures in
    (turn.0 ∙ c.loop-c.invariant.0, turn.1 ∙ c.loop-c.invariant.1, turn.2, turn.3 ∙ sym (λ i. firsts old.weights old.cap (old.list ++ circuits_of (c.in-Some.ensures.steps.0 i))) ∙ c.loop-c.invariant.3, (subst (ArePriced c.args.self.now.weights) c.in-Some.ensures.steps.0 c.loop-c.invariant.4).1)
