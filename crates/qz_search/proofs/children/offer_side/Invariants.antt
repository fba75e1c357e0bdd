use Rattle.std.proofs.Common.{IfSome, drop}
use Rattle.std.specs.List.{filter}
use Rattle.qz_queue.specs.Bars.{IsBar}
use Rattle.qz_search.specs.Offers.{is_new}
use Rattle.qz_search.specs.Tables.{children_by_numbers}
use Rattle.qz_search.proofs.Offering.{IsOffering}
use Rattle.qz_search.proofs.children.offer_side.Given as goal

abbrev pub invariant-loop-k : goal.invariant-loop-k
invariant-loop-k l =
    (IsOffering l.queue l.fn.queue (filter (is_new l.fn.queue.weights l.test.seen l.test.most) (children_by_numbers l.circuits l.side.left.items (drop l.k-index l.rights) l.c.gates.now)) (filter (is_new l.fn.queue.weights l.test.seen l.test.most) (children_by_numbers l.circuits l.side.left.items l.rights l.c.gates.now))) × IfSome l.bar (IsBar l.queue l.c.gates.now)
