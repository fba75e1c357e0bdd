use Rattle.qz_circ.proofs.ProperWays.{proper_paths, proper_program_paths}
use Rattle.qz_circ.proofs.Totals.{count-root2_twice}
use Rattle.qz_circ.specs.Paths.{paths, root2}
use Rattle.qz_circ.specs.ProgramCircuits.{program_paths}
use Rattle.qz_paths.proofs.laws.root2_twice_doubles.Goals as goal

pub returns-clause-ways : goal.returns-clause-ways
unfolding root2
returns-clause-ways _ = count-root2_twice

pub returns-clause-rules : goal.returns-clause-rules
unfolding root2
returns-clause-rules _ q c i j e he = count-root2_twice (paths q c i j) e (proper_paths q c i j) he

pub returns-clause-programs : goal.returns-clause-programs
unfolding root2
returns-clause-programs _ q c i j e he = count-root2_twice (program_paths q c i j) e (proper_program_paths q c i j) he
