use Rattle.qz_repgen.proofs.FirstRanks.{none_of_one_length, empty_of_one_length}
use Rattle.qz_repgen.proofs.laws.first_ranks_are_of_one_length.Goals as goal

pub returns-clause-none : goal.returns-clause-none
returns-clause-none _ = none_of_one_length

pub returns-clause-empty : goal.returns-clause-empty
returns-clause-empty _ = empty_of_one_length
