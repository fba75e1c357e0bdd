use Rattle.std.proofs.Common.{◌≤◌, length}
use Rattle.qz_match.specs.Neighbours.{FindsPrevious, FindsNext, HasFirst}
use Rattle.qz_match.proofs.neighbours.set_next.Given as goal

-- the gates from i on have links, and the first of them on each qubit is known
abbrev pub invariant-loop-i : goal.invariant-loop-i
invariant-loop-i l = record {
  within : l.i ≤ length l.c;
  previous : FindsPrevious l.c (length l.c) l.links;
  next : FindsNext l.c l.i l.links;
  first : HasFirst l.c l.i l.first;
}

abbrev pub decreases-loop-i : goal.decreases-loop-i
decreases-loop-i l = l.i
