use Rattle.std.proofs.Common.{◌≡◌, ◌+◌, ℕ, List, drop, subst}
use Rattle.std.specs.List.{filter, flat_map}
use Rattle.qz_circ.specs.Vectors.{lists_of}
use Rattle.qz_search.specs.Offers.{is_new, offered_to}
use Rattle.qz_search.specs.Tables.{children_by_table}
use Rattle.qz_search.proofs.Offering.{offering_step, offering_weights, offers_front, batch_front}
use Rattle.qz_search.proofs.offer.offer_batch.Goals as goal

pub loop-c-preserved : goal.loop-c-preserved
loop-c-preserved c =
    let vs = c.args.batch.now in
    let i = c.loop-c.c-index in
    let next = children_by_table c.args.rules.now in
    let test = is_new c.args.queue.now.weights c.args.test.now.seen c.args.test.now.most in
    let weights = offering_weights c.loop-c.queue c.args.queue.now _ _ c.loop-c.invariant in
    let offered : List ℕ → Type 0 = λ ws. c.offer_children.new.queue ≡ offered_to c.loop-c.queue (filter (is_new ws c.args.test.now.seen c.args.test.now.most) (next c.c-item.result.items)) in
    let front = batch_front vs i c.c-item.result c.loop-c-test.true c.c-item.is in
    let parts = offers_front test next (lists_of (drop i vs)) (lists_of (drop (i + 1) vs)) c.c-item.result.items front in
    offering_step c.loop-c.queue c.args.queue.now c.offer_children.new.queue (filter test (next c.c-item.result.items)) (filter test (flat_map next (lists_of (drop (i + 1) vs)))) (filter test (flat_map next (lists_of (drop i vs)))) (filter test (flat_map next (lists_of vs))) c.loop-c.invariant parts (subst offered weights (rw c.deref.ensures.value at c.in_ok-offer_children.ensures))
