use Rattle.qz_queue.proofs.QueueLists.{held_empty}
use Rattle.qz_queue.proofs.queue.Queue.weighted.Goals as goal

pub invariant_of-result : goal.invariant_of-result
invariant_of-result c =
    held_empty c.args.weights c.args.cap c.in-Ok.list c.requires.some c.requires.few c.requires.weighed c.in-Ok.ensures.items c.in-Ok.ensures.capacity
