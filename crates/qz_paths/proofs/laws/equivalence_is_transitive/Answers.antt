use Rattle.qz_paths.proofs.Equivalences.{transitive, program_transitive}
use Rattle.qz_paths.proofs.laws.equivalence_is_transitive.Goals as goal

pub returns-clause-rules : goal.returns-clause-rules
returns-clause-rules _ = transitive

pub returns-clause-programs : goal.returns-clause-programs
returns-clause-programs _ = program_transitive
