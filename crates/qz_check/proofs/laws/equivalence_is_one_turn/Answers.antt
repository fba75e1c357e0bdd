use Rattle.qz_check.proofs.OneTurn.{equivalence_is_one_turn}
use Rattle.qz_check.proofs.laws.equivalence_is_one_turn.Goals as goal

pub returns : goal.returns
returns c = equivalence_is_one_turn
