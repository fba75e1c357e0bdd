use Rattle.qz_core.proofs.Rounds.{after_is_round}
use Rattle.qz_core.proofs.laws.events_keep_the_round.Goals as goal

pub returns-clause-kept : goal.returns-clause-kept
returns-clause-kept c = after_is_round
