use Rattle.std.proofs.Common.{◌∙◌, length, ap, arith}
use Rattle.std.proofs.lemmas.List.{length-map}
use Rattle.qz_queue.specs.Circuits.{circuits_of}
use Rattle.qz_queue.proofs.QueueLists.{queue_few, held_copy}
use Rattle.qz_queue.proofs.queue.Queue.copy.Goals as goal

pub copies_of-requires : goal.copies_of-requires
copies_of-requires c =
    let list = c.self.inside.list.items in
    record { within = omega (arith, queue_few c.self.inside.weights c.self.inside.cap (circuits_of list) c.self.invariant.lawful.ordered, length-map list (λ p. p.gates.items), ap length c.deref.ensures.value) }

pub invariant_of-result : goal.invariant_of-result
invariant_of-result c =
    held_copy c.self.inside.weights c.self.inside.cap c.self.inside.list c.in_ok-list.list c.self.invariant (rw c.deref.ensures.value at c.in_ok-list.ensures.same) (rw c.deref.ensures.value at c.in_ok-list.ensures.prices) c.in_ok-list.ensures.room
