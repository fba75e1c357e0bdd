use Rattle.std.proofs.Common.{◌≡◌, ◌≤◌, ◌+◌, ◌-◌, length, drop}
use Rattle.qz_rulefile.specs.Reading.{common}
use Rattle.qz_rulefile.proofs.parts.common_len.Given as goal

abbrev pub invariant-loop-n : goal.invariant-loop-n
invariant-loop-n l = record {
  same : l.n + common (drop l.n l.text) (drop l.n l.bytes) ≡ common l.text l.bytes;
  within_text : l.n ≤ length l.text;
  within : l.n ≤ length l.bytes;
}

abbrev pub decreases-loop-n : goal.decreases-loop-n
decreases-loop-n l = length l.text - l.n
