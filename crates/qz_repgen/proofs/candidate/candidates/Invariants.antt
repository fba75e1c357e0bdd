use Rattle.std.proofs.Common.{take}
use Rattle.qz_repgen.proofs.CandidateRows.{RowsFound}
use Rattle.qz_repgen.proofs.candidate.candidates.Given as goal

-- the rows so far
abbrev pub invariant-loop-s : goal.invariant-loop-s
invariant-loop-s l = RowsFound l.b l.reps (take l.s-index l.reps) l.found.items
