use Rattle.qz_match.specs.Walks.{AgreesUpTo}
use Rattle.qz_match.proofs.walk.next_step.Given as goal

-- neighbours up to here are both seen, or neither is
abbrev pub invariant-loop-j : goal.invariant-loop-j
invariant-loop-j l = AgreesUpTo l.left l.seen l.j
