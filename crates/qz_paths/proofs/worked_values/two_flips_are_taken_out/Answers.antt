use Rattle.std.proofs.Common.{[], ◌∷◌, refl, arith}
use Rattle.qz_circ.specs.declared.circuit.Op.TheVariants.{H, X}
use Rattle.qz_circ.specs.Circuit.{gates_of, angles}
use Rattle.qz_circ.specs.Order.{circuits_of, all_circuits, circuit_at}
use Rattle.qz_paths.proofs.worked_values.two_flips_are_taken_out.Goals as goal

pub returns : goal.returns
unfolding circuit_at all_circuits circuits_of gates_of angles
returns _ =
    record {
      chain = (X 0 ∷ X 0 ∷ H 0 ∷ []) ∷ (H 0 ∷ []) ∷ [];
      short = (omega arith, (omega arith, tt));
      starts = refl;
      ends = refl;
      steps = (record { front = []; back = H 0 ∷ []; members = [] ∷ (X 0 ∷ X 0 ∷ []) ∷ []; old = X 0 ∷ X 0 ∷ []; new = []; is_class = (0, omega arith, refl); old_member = (1, omega arith, refl); new_member = (0, omega arith, refl); before = refl; after = refl }, tt);
    }
