use Rattle.std.proofs.Common.{drop}
use Rattle.std.specs.List.{filter, flat_map}
use Rattle.qz_circ.specs.Vectors.{lists_of}
use Rattle.qz_search.specs.Offers.{is_new}
use Rattle.qz_search.specs.Tables.{children_by_table}
use Rattle.qz_search.proofs.Offering.{IsOffering}
use Rattle.qz_search.proofs.offer.offer_batch.Given as goal

abbrev pub invariant-loop-c : goal.invariant-loop-c
invariant-loop-c l =
    IsOffering l.queue l.fn.queue (filter (is_new l.fn.queue.weights l.test.seen l.test.most) (flat_map (children_by_table l.rules) (lists_of (drop l.c-index l.batch)))) (filter (is_new l.fn.queue.weights l.test.seen l.test.most) (flat_map (children_by_table l.rules) (lists_of l.batch)))
