use Rattle.std.proofs.Common.{◌≡◌, map, take}
use Rattle.qz_circ.specs.Relabellings.{renamed_gate}
use Rattle.qz_prune.proofs.renaming.renamed.Given as goal

-- the gates so far
abbrev pub invariant-loop-gate : goal.invariant-loop-gate
invariant-loop-gate l = l.gates.items ≡ map (renamed_gate l.r.qubits l.r.params) (take l.gate-index l.c)
