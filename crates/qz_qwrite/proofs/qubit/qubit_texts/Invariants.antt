use Rattle.std.proofs.Common.{◌≡◌, map, take}
use Rattle.std.specs.List.{flat_map}
use Rattle.qz_circ.specs.Circuit.{below}
use Rattle.qz_circ.specs.ProgramText.{indexed_text}
use Rattle.qz_qwrite.proofs.qubit.qubit_texts.Given as goal

abbrev pub invariant-loop-r : goal.invariant-loop-r
invariant-loop-r l = l.texts ≡ flat_map (λ r. map (indexed_text r.name) (below r.size)) (take l.r-index l.registers)
