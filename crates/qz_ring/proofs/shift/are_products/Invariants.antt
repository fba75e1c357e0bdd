use Rattle.std.proofs.Common.{◌≡◌, map, take}
use Rattle.qz_ring.specs.Shifting.{shifted_term}
use Rattle.qz_ring.proofs.shift.are_products.Given as goal

abbrev pub invariant-loop-k : goal.invariant-loop-k
invariant-loop-k l = take l.k l.terms ≡ map (shifted_term l.by) (take l.k l.other)
