use Rattle.qz_paths.proofs.Equivalences.{symmetric, program_symmetric}
use Rattle.qz_paths.proofs.laws.equivalence_is_symmetric.Goals as goal

pub returns-clause-rules : goal.returns-clause-rules
returns-clause-rules _ = symmetric

pub returns-clause-programs : goal.returns-clause-programs
returns-clause-programs _ = program_symmetric
