use Rattle.qz_check.proofs.TurnLemmas.{IsNarrowedMatrix}
use Rattle.qz_check.proofs.has_turn.Given as goal

abbrev pub invariant-loop-j : goal.invariant-loop-j
invariant-loop-j l = IsNarrowedMatrix l.q l.roots l.a l.c l.j l.possible.items
