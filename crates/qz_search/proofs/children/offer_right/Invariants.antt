use Rattle.std.proofs.Common.{IfSome, drop, [], ◌∷◌}
use Rattle.std.specs.List.{filter, flat_map}
use Rattle.qz_circ.specs.Replacement.{replaced}
use Rattle.qz_queue.specs.Bars.{IsBar}
use Rattle.qz_search.specs.Offers.{is_new}
use Rattle.qz_search.proofs.Offering.{IsOffering}
use Rattle.qz_search.proofs.children.offer_right.Given as goal

abbrev pub invariant-loop-place : goal.invariant-loop-place
invariant-loop-place l =
    (IsOffering l.queue l.fn.queue (filter (is_new l.fn.queue.weights l.test.seen l.test.most) (flat_map (λ p. replaced l.c.gates.now l.rule.right.now p ∷ []) (drop l.place-index l.found))) (filter (is_new l.fn.queue.weights l.test.seen l.test.most) (flat_map (λ p. replaced l.c.gates.now l.rule.right.now p ∷ []) l.found))) × IfSome l.bar (IsBar l.queue l.c.gates.now)
