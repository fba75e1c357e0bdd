use Rattle.qz_paths.proofs.Congruence.{congruent_circuits, congruent_programs}
use Rattle.qz_paths.proofs.laws.equivalence_stays_with_gates_around.Goals as goal

pub returns-clause-rules : goal.returns-clause-rules
returns-clause-rules _ = congruent_circuits

pub returns-clause-programs : goal.returns-clause-programs
returns-clause-programs _ = congruent_programs
