use Rattle.std.proofs.Common.{◌≡◌, ◌++◌, take}
use Rattle.std.specs.List.{flat_map}
use Rattle.qz_circ.specs.ProgramText.{gate_line}
use Rattle.qz_qwrite.proofs.lines.push_gates.Given as goal

abbrev pub invariant-loop-g : goal.invariant-loop-g
invariant-loop-g l = l.out.items ≡ l.initial.out.items ++ flat_map (gate_line l.qubits) (take l.g-index l.gates)
