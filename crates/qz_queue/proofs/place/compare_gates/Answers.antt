use Rattle.std.proofs.Common.{◌∙◌, sym}
use Rattle.qz_circ.proofs.DerivedOrders.{program_gates_by_key}
use Rattle.qz_queue.proofs.Fronts.{decided_at, alike_throughout}
use Rattle.qz_queue.proofs.place.compare_gates.Goals as goal

pub returns-then-is_ne-clause-order : goal.returns-then-is_ne-clause-order
returns-then-is_ne-clause-order c =
    decided_at c.args.weights c.args.a.now c.args.c.now c.loop-k.k _ c.cmp-order.result c.requires.dear c.requires.long c.loop-k.invariant c.loop-k-test.true (c.cmp-order.ensures ∙ program_gates_by_key _ _) (sym c.is_ne.ensures ∙ c.if-is_ne.true)

pub returns-clause-order : goal.returns-clause-order
returns-clause-order c =
    alike_throughout c.args.weights c.args.a.now c.args.c.now c.loop-k.k c.requires.long c.loop-k.invariant c.loop-k-test.false
