use Rattle.std.proofs.Common.{◌≡◌, map, length, take, drop}
use Rattle.qz_circ.specs.Places.{bind_gates, nothing_bound}
use Rattle.qz_match.specs.Neighbours.{gate_at}
use Rattle.qz_match.proofs.bind.bound_at.Given as goal

-- what is left to bind
abbrev pub invariant-loop-i : goal.invariant-loop-i
invariant-loop-i l =
    bind_gates nothing_bound l.left (map (gate_at l.c) (take (length l.left) l.found)) ≡ bind_gates l.bind (drop l.i l.left) (drop l.i (map (gate_at l.c) (take (length l.left) l.found)))
