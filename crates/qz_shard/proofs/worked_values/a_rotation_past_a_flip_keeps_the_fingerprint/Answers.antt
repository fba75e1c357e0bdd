use Rattle.std.specs.Prelude.{[], ◌∷◌}
use Rattle.qz_circ.specs.declared.circuit.Expr.TheVariants.{Plus, Minus}
use Rattle.qz_circ.specs.declared.circuit.Op.TheVariants.{X, Rz}
use Rattle.qz_equiv.proofs.WorkedValues.{flip_equivalent}
use Rattle.qz_finger.proofs.Law.{one_fingerprint}
use Rattle.qz_shard.proofs.worked_values.a_rotation_past_a_flip_keeps_the_fingerprint.Goals as goal

pub returns : goal.returns
returns _ seed = one_fingerprint seed 1 (X 0 ∷ Rz 0 (Plus 0) ∷ []) (Rz 0 (Minus 0) ∷ X 0 ∷ []) flip_equivalent
