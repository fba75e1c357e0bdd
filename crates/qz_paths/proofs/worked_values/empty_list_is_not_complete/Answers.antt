use Rattle.std.proofs.Common.{[], ◌∷◌, refl, arith}
use Rattle.std.specs.Prelude.{Contains}
use Rattle.qz_circ.specs.declared.circuit.Op.TheVariants.{X}
use Rattle.qz_circ.specs.Circuit.{gates_of, angles}
use Rattle.qz_paths.proofs.Chains.{ends_where_it_starts}
use Rattle.qz_paths.proofs.OneQubit.{two_flips}
use Rattle.qz_paths.proofs.worked_values.empty_list_is_not_complete.Goals as goal

pub returns : goal.returns
unfolding gates_of angles
returns _ joins =
    let flip : Contains (gates_of (record { n = 2; q = 1; m = 0; grain = 4 })) (X 0) = (1, omega arith, refl) in
    let joined = joins (X 0 ∷ X 0 ∷ []) [] (record { short = omega arith; gates = (flip, (flip, tt)) }) (record { short = omega arith; gates = tt }) two_flips in
    omega (arith, ends_where_it_starts joined.chain _ _ joined.starts joined.ends joined.steps)
