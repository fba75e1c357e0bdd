use Rattle.std.proofs.Common.{◌≡◌, take}
use Rattle.std.specs.List.{flat_map}
use Rattle.qz_circ.specs.Instances.{qubit_of, param_of, instance_gate}
use Rattle.qz_subst.proofs.substitution.instance_of.Given as goal

abbrev pub invariant-loop-g : goal.invariant-loop-g
invariant-loop-g l = l.out.items ≡ flat_map (instance_gate (qubit_of l.bind) (param_of l.bind)) (take l.g-index l.c)
