use Rattle.std.proofs.Common.{◌≡◌, ◌-◌, ◌≤◌}
use Rattle.qz_rulefile.specs.Reading.{more_at}
use Rattle.qz_rulefile.proofs.Members.{IsFront}
use Rattle.qz_rulefile.proofs.gate_texts.GateTexts.more.Given as goal

abbrev pub invariant-loop-left : goal.invariant-loop-left
invariant-loop-left l = record {
  same : more_at l.self.bounds l.left l.r l.rest ≡ more_at l.self.bounds (l.self.bounds.n - 1) l.fn.start l.fn.bytes;
  within : l.left ≤ l.self.bounds.n;
  front : IsFront l.self.bounds (l.self.bounds.n - l.left) l.left l.r;
}

abbrev pub decreases-loop-left : goal.decreases-loop-left
decreases-loop-left l = l.left
