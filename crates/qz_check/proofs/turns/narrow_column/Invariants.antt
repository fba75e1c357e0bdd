use Rattle.qz_check.proofs.TurnLemmas.{IsNarrowedTo}
use Rattle.qz_check.proofs.turns.narrow_column.Given as goal

abbrev pub invariant-loop-i : goal.invariant-loop-i
invariant-loop-i l = IsNarrowedTo l.x l.y l.i l.initial.possible l.possible
