use Rattle.qz_match.proofs.Candidates.{IsWalked}
use Rattle.qz_match.proofs.start.candidate.Given as goal

-- what is found stands in each match
abbrev pub invariant-loop-step : goal.invariant-loop-step
invariant-loop-step l = IsWalked l.fn.left l.fn.c l.p l.steps l.step-index l.found
