use Rattle.std.proofs.Common.{◌≡◌, take}
use Rattle.std.specs.List.{flat_map}
use Rattle.qz_prune.specs.Permutations.{table, with_each}
use Rattle.qz_prune.proofs.permutations.relabellings.Given as goal

-- those with the names so far
abbrev pub invariant-loop-number : goal.invariant-loop-number
invariant-loop-number l = l.all.items ≡ flat_map (with_each l.m) (take l.number table)
