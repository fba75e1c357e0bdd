use Rattle.std.proofs.Common.{◌≡◌, ◌++◌, map}
use Rattle.qz_circ.specs.Circuit.{below}
use Rattle.qz_circ.specs.ProgramText.{indexed_text}
use Rattle.qz_qwrite.proofs.qubit.QubitTexts.add_register.Given as goal

abbrev pub invariant-loop-place : goal.invariant-loop-place
invariant-loop-place l = l.self ≡ l.initial.self ++ map (indexed_text l.r.name) (below l.place)
