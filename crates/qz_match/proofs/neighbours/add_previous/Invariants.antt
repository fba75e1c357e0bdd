use Rattle.std.proofs.Common.{◌≡◌, length}
use Rattle.qz_match.specs.Neighbours.{FindsPrevious, HasLast}
use Rattle.qz_match.proofs.neighbours.add_previous.Given as goal

-- the gates so far have links, and the last of them on each qubit is known
abbrev pub invariant-loop-i : goal.invariant-loop-i
invariant-loop-i l = record {
  size : length l.links.items ≡ l.i;
  found : FindsPrevious l.c l.i l.links.items;
  last : HasLast l.c l.i l.last;
}
