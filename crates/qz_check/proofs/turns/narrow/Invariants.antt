use Rattle.qz_check.proofs.TurnLemmas.{IsNarrowedBelow}
use Rattle.qz_check.proofs.turns.narrow.Given as goal

abbrev pub invariant-loop-turn : goal.invariant-loop-turn
invariant-loop-turn l = IsNarrowedBelow l.x l.y l.turn l.initial.possible l.possible
