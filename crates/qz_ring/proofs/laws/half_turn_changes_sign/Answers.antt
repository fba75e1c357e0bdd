use Rattle.qz_ring.proofs.Counts.{count-half_turn}
use Rattle.qz_ring.proofs.laws.half_turn_changes_sign.Goals as goal

pub returns : goal.returns
returns c = count-half_turn
