use Rattle.qz_circ.proofs.RankLemmas.{circuit_at-rank, rank_listed}
use Rattle.qz_circ.proofs.laws.circuits_are_at_their_ranks.Goals as goal

pub returns-clause-here : goal.returns-clause-here
returns-clause-here _ = circuit_at-rank

pub returns-clause-listed : goal.returns-clause-listed
returns-clause-listed _ = rank_listed
