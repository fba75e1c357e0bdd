use Rattle.qz_circ.proofs.CircuitPlaces.{circuit_at-within}
use Rattle.qz_circ.proofs.RankLemmas.{rank-circuit_at}
use Rattle.qz_circ.proofs.laws.ranks_are_of_their_circuits.Goals as goal

pub returns-clause-within : goal.returns-clause-within
returns-clause-within _ b h r l = circuit_at-within b r l

pub returns-clause-same : goal.returns-clause-same
returns-clause-same _ = rank-circuit_at
