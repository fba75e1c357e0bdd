use Rattle.std.proofs.Common.{take, arith}
use Rattle.std.specs.Vec.Iter.{drain_items}
use Rattle.qz_queue.proofs.QueueLists.{room_left}
use Rattle.qz_queue.proofs.queue.take_front.Goals as goal

pub push_reserved-requires : goal.push_reserved-requires
push_reserved-requires c =
    let left = room_left c.loop-c.taken.items (drain_items c.loop-c.c-iterator) (drain_items c.next.new.self) c.args.list.now.items c.in-Some.c c.args.n c.loop-c.invariant.0 c.in-Some.ensures.steps.0 in
    omega (arith, left, c.loop-c.taken.ok.0, c.loop-c.invariant.1)
