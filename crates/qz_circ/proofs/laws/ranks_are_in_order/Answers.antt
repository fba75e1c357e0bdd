use Rattle.qz_circ.proofs.RankLemmas.{before_by_rank}
use Rattle.qz_circ.proofs.laws.ranks_are_in_order.Goals as goal

pub returns : goal.returns
returns _ = before_by_rank
