use Rattle.std.proofs.Common.{◌≡◌, drop}
use Rattle.qz_circ.specs.Grammar.{repetitions}
use Rattle.qz_qread.proofs.gate.repetitions.Given as goal

abbrev pub invariant-loop-a : goal.invariant-loop-a
invariant-loop-a l = repetitions l.registers (drop l.a-index l.args) ≡ repetitions l.registers l.args
