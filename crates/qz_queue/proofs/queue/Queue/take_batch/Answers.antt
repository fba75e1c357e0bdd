use Rattle.std.proofs.Common.{◌∙◌, min, ap}
use Rattle.qz_queue.specs.Circuits.{circuits_of}
use Rattle.qz_queue.proofs.QueueLists.{held_rest, batch_taken, batch_rest}
use Rattle.qz_queue.proofs.queue.Queue.take_batch.Goals as goal

pub invariant_of-self : goal.invariant_of-self
invariant_of-self c =
    held_rest c.self.inside.weights c.self.inside.cap c.least-n.result c.self.inside.list c.take_front.new.list c.self.invariant c.take_front.ensures.rest c.take_front.ensures.capacity

pub returns-clause-taken : goal.returns-clause-taken
returns-clause-taken c =
    rw (← c.self.view_is) (c.take_front.ensures.taken ∙ batch_taken c.args.k c.least-n.result c.self.inside.list (c.least-n.ensures.value ∙ ap (min c.args.k) c.len.ensures))

pub returns-clause-rest : goal.returns-clause-rest
returns-clause-rest c =
    let e = ap circuits_of c.take_front.ensures.rest ∙ batch_rest c.args.k c.least-n.result c.self.inside.list (c.least-n.ensures.value ∙ ap (min c.args.k) c.len.ensures) in
    rw (← c.self.view_is) (λ i. record { cap = c.self.inside.cap; weights = c.self.inside.weights; list = e i })
