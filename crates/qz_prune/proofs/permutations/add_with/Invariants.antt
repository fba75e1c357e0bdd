use Rattle.std.proofs.Common.{◌≡◌, ◌++◌, map, take}
use Rattle.qz_prune.specs.Permutations.{table, with_params}
use Rattle.qz_prune.proofs.permutations.add_with.Given as goal

-- those so far are added
abbrev pub invariant-loop-number : goal.invariant-loop-number
invariant-loop-number l = l.relabellings.items ≡ l.fn.relabellings.items ++ map (with_params l.qubits) (take l.number table)
