use Rattle.std.proofs.Common.{◌≡◌, ◌++◌, take}
use Rattle.qz_qread.proofs.gate.add_gates.Given as goal

abbrev pub invariant-loop-g : goal.invariant-loop-g
invariant-loop-g l = l.p ≡ record l.initial.p { gates = l.initial.p.gates ++ take l.g-index l.gates }
