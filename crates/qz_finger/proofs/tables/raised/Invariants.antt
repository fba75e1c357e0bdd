use Rattle.std.proofs.Common.{◌*◌, ◌^◌, ◌<◌}
use Rattle.qz_finger.specs.Modulo.{modulus}
use Rattle.qz_finger.proofs.Modular.{Same}
use Rattle.qz_finger.proofs.tables.raised.Given as goal

abbrev pub invariant-loop-rest : goal.invariant-loop-rest
invariant-loop-rest l = record {
  below : l.power < modulus;
  power : Same modulus (l.power * l.square ^ l.rest) (l.base ^ l.exponent);
}

abbrev pub decreases-loop-rest : goal.decreases-loop-rest
decreases-loop-rest l = l.rest
