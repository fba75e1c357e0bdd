use Rattle.std.proofs.Common.{zero, suc, refl, arith}
use Rattle.qz_circ.specs.Paths.{ways_through, identity_ways, ways_along}
use Rattle.qz_circ.specs.ProgramCircuits.{program_entry, program_paths}
use Rattle.qz_circ.proofs.worked_values.rotations_add_up.Goals as goal

pub returns-clause-two : goal.returns-clause-two
unfolding program_paths ways_along ways_through identity_ways program_entry
returns-clause-two c zero zero hi hj = refl
returns-clause-two c zero (suc zero) hi hj = refl
returns-clause-two c (suc zero) zero hi hj = refl
returns-clause-two c (suc zero) (suc zero) hi hj = refl
returns-clause-two c (suc (suc i)) j hi hj = absurd (omega arith)
returns-clause-two c i (suc (suc j)) hi hj = absurd (omega arith)

pub returns-clause-none : goal.returns-clause-none
unfolding program_paths ways_along ways_through identity_ways program_entry
returns-clause-none c zero zero hi hj = refl
returns-clause-none c zero (suc zero) hi hj = refl
returns-clause-none c (suc zero) zero hi hj = refl
returns-clause-none c (suc zero) (suc zero) hi hj = refl
returns-clause-none c (suc (suc i)) j hi hj = absurd (omega arith)
returns-clause-none c i (suc (suc j)) hi hj = absurd (omega arith)
