use Rattle.std.proofs.Common.{◌≡◌, ◌++◌, take}
use Rattle.std.specs.List.{flat_map}
use Rattle.qz_circ.specs.ProgramText.{tail_line}
use Rattle.qz_qwrite.proofs.lines.push_tail.Given as goal

abbrev pub invariant-loop-statement : goal.invariant-loop-statement
invariant-loop-statement l = l.out.items ≡ l.initial.out.items ++ flat_map (tail_line l.qregs l.cregs) (take l.statement-index l.tail)
