use Rattle.qz_match.proofs.Candidates.{IsWalked}
use Rattle.qz_match.proofs.start.arranged.Given as goal

-- what is arranged stands in each match
abbrev pub invariant-loop-k : goal.invariant-loop-k
invariant-loop-k l = IsWalked l.left l.c l.cursor.first l.steps l.k l.positions
