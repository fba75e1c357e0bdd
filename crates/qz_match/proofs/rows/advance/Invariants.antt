use Rattle.std.proofs.Common.{◌-◌, ◌≤◌, length}
use Rattle.qz_match.specs.Words.{Leads}
use Rattle.qz_match.proofs.rows.advance.Given as goal

-- the words so far lead to the positions so far
abbrev pub invariant-loop-k : goal.invariant-loop-k
invariant-loop-k l = (l.k ≤ length l.words) × Leads l.c l.neighbours.links l.p l.words l.k l.found

abbrev pub decreases-loop-k : goal.decreases-loop-k
decreases-loop-k l = length l.words - l.k
