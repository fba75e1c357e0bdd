use Rattle.std.proofs.Common.{◌≡◌, ◌++◌, take}
use Rattle.std.specs.List.{flat_map}
use Rattle.qz_circ.specs.ProgramText.{register_line}
use Rattle.qz_qwrite.proofs.lines.push_registers.Given as goal

abbrev pub invariant-loop-r : goal.invariant-loop-r
invariant-loop-r l = l.out.items ≡ l.initial.out.items ++ flat_map (register_line l.word) (take l.r-index l.registers)
