use Rattle.qz_paths.proofs.Equivalences.{reflexive, program_reflexive}
use Rattle.qz_paths.proofs.laws.equivalence_is_reflexive.Goals as goal

pub returns-clause-rules : goal.returns-clause-rules
returns-clause-rules _ = reflexive

pub returns-clause-programs : goal.returns-clause-programs
returns-clause-programs _ = program_reflexive
