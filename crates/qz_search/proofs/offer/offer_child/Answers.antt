use Rattle.std.proofs.Common.{◌≡◌, ◌∙◌, true, sym}
use Rattle.qz_search.specs.Offers.{is_new}
use Rattle.qz_search.proofs.Offering.{one_offered, closed_lost}
use Rattle.qz_search.proofs.offer.offer_child.Goals as goal

pub returns-clause-offered : goal.returns-clause-offered
returns-clause-offered c =
    let ws = c.args.queue.now.weights in
    let new : is_new ws c.args.test.now.seen c.args.test.now.most c.args.c.items ≡ true = rw c.deref-2.ensures.value at (sym (c.passes.ensures ws (rw c.deref-2.ensures.value c.requires.cost)) ∙ c.if-not-passes.false) in
    one_offered c.args.queue.now c.put_at.new.self c.args.c.items _ new c.put_at.ensures

pub returns-in_default-clause-offered : goal.returns-in_default-clause-offered
returns-in_default-clause-offered c =
    closed_lost c.args.queue.now c.args.test.now.seen c.args.test.now.most c.args.c.items c.requires.lawful (rw c.deref.ensures.value at (c.place.ensures.same c.in_default.is))
