use Rattle.std.proofs.Common.{take}
use Rattle.qz_finger.specs.Stands.{StandsFor}
use Rattle.qz_finger.proofs.probe.Probe.values.Given as goal

abbrev pub invariant-loop-op : goal.invariant-loop-op
invariant-loop-op l = StandsFor l.self (take l.op-index l.c) l.values
