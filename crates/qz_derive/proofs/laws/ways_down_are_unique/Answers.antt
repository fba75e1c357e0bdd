use Rattle.qz_derive.proofs.Lowered.{down_same}
use Rattle.qz_derive.proofs.laws.ways_down_are_unique.Goals as goal

pub returns : goal.returns
returns _ b lawful = down_same b lawful
