use Rattle.std.proofs.Common.{[], ◌∷◌, refl, arith}
use Rattle.qz_circ.specs.declared.circuit.Expr.TheVariants.{Plus, Minus}
use Rattle.qz_circ.specs.declared.circuit.Inst.TheVariants.{H as ProgramH, Rz as ProgramRz}
use Rattle.qz_circ.specs.declared.circuit.Op.TheVariants.{H, Rz}
use Rattle.qz_circ.specs.Circuit.{Circuit}
use Rattle.qz_circ.specs.Equivalence.{scaled_ways, Equivalent}
use Rattle.qz_circ.specs.Exponent.{zero_exponent}
use Rattle.qz_circ.specs.Paths.{entry, ways_through, identity_ways, ways_along, paths, root2}
use Rattle.qz_circ.specs.ProgramCircuits.{ProgramCircuit, program_entry, program_paths, scaled_program_ways, EquivalentProgramCircuits}
use Rattle.qz_paths.proofs.Congruence.{congruent_circuits, congruent_programs}
use Rattle.qz_paths.proofs.OneQubit.{same_ways}
use Rattle.qz_paths.proofs.worked_values.rotations_cancel_between_gates.Goals as goal

-- the rotations of a rule
abbrev rotations : Circuit
rotations = Rz 0 (Plus 0) ∷ Rz 0 (Minus 0) ∷ []

rotations_cancel : Equivalent 1 rotations []
unfolding scaled_ways root2 paths ways_along ways_through identity_ways entry
rotations_cancel = (zero_exponent, same_ways (scaled_ways 1 rotations []) (scaled_ways 1 [] rotations) refl refl refl refl)

-- those of a program
abbrev program_rotations : ProgramCircuit
program_rotations = ProgramRz 0 511 ∷ ProgramRz 0 1 ∷ []

program_rotations_cancel : EquivalentProgramCircuits 1 program_rotations []
unfolding scaled_program_ways root2 program_paths ways_along ways_through identity_ways program_entry
program_rotations_cancel = (zero_exponent, same_ways (scaled_program_ways 1 program_rotations []) (scaled_program_ways 1 [] program_rotations) refl refl refl refl)

pub returns-clause-rules : goal.returns-clause-rules
returns-clause-rules _ = congruent_circuits 1 (H 0 ∷ []) (H 0 ∷ []) rotations [] (omega arith, tt) (omega arith, tt) (omega arith, (omega arith, tt)) tt rotations_cancel

pub returns-clause-programs : goal.returns-clause-programs
returns-clause-programs _ =
    congruent_programs 1 (ProgramH 0 ∷ []) (ProgramH 0 ∷ []) program_rotations [] (omega arith, tt) (omega arith, tt)
    ((omega arith, omega arith, omega arith), ((omega arith, omega arith, omega arith), tt)) tt program_rotations_cancel
