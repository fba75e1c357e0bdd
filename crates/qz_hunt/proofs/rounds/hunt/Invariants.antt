use Rattle.std.proofs.Common.{◌≡◌}
use Rattle.qz_search.specs.Rounds.{IsBetweenRounds}
use Rattle.qz_hunt.proofs.rounds.hunt.Given as goal

abbrev pub invariant-loop-rounds : goal.invariant-loop-rounds
invariant-loop-rounds g l = IsBetweenRounds l.rules.classes l.c l.rounds × (l.rounds.plan ≡ l.fn.plan)

abbrev pub decreases-loop-rounds : goal.decreases-loop-rounds
decreases-loop-rounds g l = l.rounds.left
