use Rattle.std.proofs.Common.{◌≡◌}
use Rattle.std.specs.List.{flat_map}
use Rattle.qz_circ.specs.Circuit.{below}
use Rattle.qz_match.specs.Starts.{starting}
use Rattle.qz_match.proofs.start.places_of.Given as goal

-- the places that begin before p
abbrev pub invariant-loop-p : goal.invariant-loop-p
invariant-loop-p l = l.found.items ≡ flat_map (starting l.left l.c) (below l.p)
