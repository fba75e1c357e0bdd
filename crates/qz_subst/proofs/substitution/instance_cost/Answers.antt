use Rattle.std.proofs.Common.{◌∙◌, arith}
use Rattle.qz_circ.specs.ProgramCircuits.{cost}
use Rattle.qz_circ.specs.Instances.{qubit_of, param_of, instance_gate}
use Rattle.qz_subst.proofs.InstanceCosts.{cost_one_more}
use Rattle.qz_subst.proofs.substitution.instance_cost.Goals as goal

pub loop-f-init : goal.loop-f-init
unfolding cost
loop-f-init c = (omega arith, omega arith)

pub loop-f-preserved : goal.loop-f-preserved
loop-f-preserved c = (
  cost_one_more c.args.weights (instance_gate (qubit_of c.args.bind.now) (param_of c.args.bind.now)) c.args.c.now c.loop-f.f-index c.loop-f.n c.from-n.result _ c.loop-f-test.true c.loop-f.invariant.0 (c.from-n.ensures ∙ c.gate_cost.ensures),
  omega (arith, c.loop-f.invariant.1, c.from-n.ensures, c.gate_cost.type_inv),
)
