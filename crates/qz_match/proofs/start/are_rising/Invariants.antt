use Rattle.std.proofs.Common.{◌≡◌, drop}
use Rattle.qz_match.specs.Starts.{rises}
use Rattle.qz_match.proofs.start.are_rising.Given as goal

-- what is left to test
abbrev pub invariant-loop-p : goal.invariant-loop-p
invariant-loop-p l = rises 0 l.m l.positions ≡ rises l.low l.m (drop l.p-index l.positions)
