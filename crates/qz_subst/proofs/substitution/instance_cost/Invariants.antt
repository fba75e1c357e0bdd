use Rattle.std.proofs.Common.{◌≡◌, ◌≤◌, ◌*◌, take}
use Rattle.std.specs.List.{flat_map}
use Rattle.qz_circ.specs.ProgramCircuits.{cost}
use Rattle.qz_circ.specs.Instances.{qubit_of, param_of, instance_gate}
use Rattle.qz_subst.proofs.substitution.instance_cost.Given as goal

abbrev pub invariant-loop-f : goal.invariant-loop-f
invariant-loop-f l =
    (l.n ≡ cost l.weights (flat_map (instance_gate (qubit_of l.bind) (param_of l.bind)) (take l.f-index l.c))) × (l.n ≤ 255 * l.f-index)
