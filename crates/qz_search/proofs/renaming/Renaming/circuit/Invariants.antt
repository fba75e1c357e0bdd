use Rattle.std.proofs.Common.{◌≡◌, take}
use Rattle.qz_search.specs.Renamings.{circuit_by}
use Rattle.qz_search.proofs.renaming.Renaming.circuit.Given as goal

abbrev pub invariant-loop-g : goal.invariant-loop-g
invariant-loop-g l = l.out.items ≡ circuit_by l.self (take l.g-index l.c)
