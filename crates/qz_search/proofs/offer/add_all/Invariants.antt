use Rattle.std.proofs.Common.{◌≡◌, List, ◌++◌, take}
use Rattle.qz_circ.specs.ProgramCircuits.{ProgramCircuit, ones, program_cmp}
use Rattle.qz_circ.specs.Queue.{different}
use Rattle.qz_circ.specs.Vectors.{lists_of}
use Rattle.qz_search.proofs.offer.add_all.Given as goal

abbrev pub invariant-loop-c : goal.invariant-loop-c
invariant-loop-c l =
    (all : List ProgramCircuit) → l.fn.seen ≡ different (program_cmp ones) all → l.seen ≡ different (program_cmp ones) (all ++ lists_of (take l.c-index l.batch))
