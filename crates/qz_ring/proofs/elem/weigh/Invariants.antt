use Rattle.std.proofs.Common.{◌≡◌, take}
use Rattle.qz_ring.specs.Terms.{weight_of}
use Rattle.qz_ring.proofs.elem.weigh.Given as goal

abbrev pub invariant-loop-term : goal.invariant-loop-term
invariant-loop-term l = l.weight ≡ weight_of (take l.term-index l.terms)
