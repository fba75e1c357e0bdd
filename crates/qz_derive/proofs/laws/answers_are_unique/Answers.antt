use Rattle.qz_derive.proofs.RankChains.{answer_same}
use Rattle.qz_derive.proofs.laws.answers_are_unique.Goals as goal

pub returns : goal.returns
returns _ b lawful = answer_same b lawful
