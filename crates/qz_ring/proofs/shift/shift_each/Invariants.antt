use Rattle.std.proofs.Common.{◌≡◌, ◌++◌, map, take, drop}
use Rattle.qz_ring.specs.Shifting.{shifted_term}
use Rattle.qz_ring.proofs.shift.shift_each.Given as goal

abbrev pub invariant-loop-term : goal.invariant-loop-term
invariant-loop-term l = l.terms ≡ map (shifted_term l.by) (take l.term-index l.initial.terms) ++ drop l.term-index l.initial.terms
