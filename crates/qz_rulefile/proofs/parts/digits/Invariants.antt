use Rattle.std.proofs.Common.{◌≡◌, ◌<◌, length}
use Rattle.qz_rulefile.specs.Reading.{digits_at}
use Rattle.qz_rulefile.proofs.parts.digits.Given as goal

abbrev pub invariant-loop-b : goal.invariant-loop-b
invariant-loop-b l = record {
  same : digits_at l.stop l.low l.value l.rest ≡ digits_at l.stop l.low l.fn.start l.fn.bytes;
  few : l.value < 1000000000;
}

abbrev pub decreases-loop-b : goal.decreases-loop-b
decreases-loop-b l = length l.rest
