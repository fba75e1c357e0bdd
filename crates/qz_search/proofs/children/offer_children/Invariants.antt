use Rattle.std.proofs.Common.{IfSome, drop}
use Rattle.std.specs.List.{filter, flat_map}
use Rattle.qz_queue.specs.Bars.{IsBar}
use Rattle.qz_search.specs.Offers.{is_new}
use Rattle.qz_search.specs.Tables.{children_of}
use Rattle.qz_search.proofs.Offering.{IsOffering}
use Rattle.qz_search.proofs.children.offer_children.Given as goal

abbrev pub invariant-loop-side : goal.invariant-loop-side
invariant-loop-side l =
    (IsOffering l.queue l.fn.queue (filter (is_new l.fn.queue.weights l.test.seen l.test.most) (flat_map (λ side. children_of l.circuits side l.c) (drop l.side-index l.sides))) (filter (is_new l.fn.queue.weights l.test.seen l.test.most) (flat_map (λ side. children_of l.circuits side l.c) l.sides))) × IfSome l.bar (IsBar l.queue l.c)
