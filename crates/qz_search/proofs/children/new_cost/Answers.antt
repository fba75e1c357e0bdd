use Rattle.std.proofs.Common.{◌≡◌, ◌∙◌, arith}
use Rattle.qz_circ.specs.ProgramCircuits.{cost}
use Rattle.qz_circ.specs.Instances.{bound_instance}
use Rattle.qz_circ.proofs.ProgramOrder.{cost_most}
use Rattle.qz_subst.proofs.EquivalentInstances.{instance_length}
use Rattle.qz_search.proofs.StepCosts.{rewritten_cost}
use Rattle.qz_search.proofs.children.new_cost.Goals as goal

pub overflow_add-result : goal.overflow_add-result
overflow_add-result c =
    let ws = c.args.queue.now.weights in
    let right = c.args.rule.now.right.now in
    let bind = c.args.place.now.binding in
    let is = c.instance_cost.ensures ∙ (λ i. cost (c.weights.ensures.value i) (bound_instance (c.binding.ensures i) right)) in
    let most = cost_most ws c.requires.lawful.weighed (bound_instance bind right) in
    record { fits = omega (arith, c.requires.short, c.requires.few, c.requires.cost, cost_most ws c.requires.lawful.weighed c.args.c.now.gates.now, most, instance_length bind right, is) }

pub overflow_sub-result : goal.overflow_sub-result
overflow_sub-result c =
    let ws = c.args.queue.now.weights in
    let right = c.args.rule.now.right.now in
    let is = c.instance_cost.ensures ∙ (λ i. cost (c.weights.ensures.value i) (bound_instance (c.binding.ensures i) right)) in
    omega (arith, rewritten_cost ws c.args.rule.now.left.now right c.args.c.now.gates.now c.args.place.now c.requires.place, c.requires.cost, c.requires.left, is)

pub returns : goal.returns
returns c =
    let ws = c.args.queue.now.weights in
    let right = c.args.rule.now.right.now in
    let is = c.instance_cost.ensures ∙ (λ i. cost (c.weights.ensures.value i) (bound_instance (c.binding.ensures i) right)) in
    omega (arith, rewritten_cost ws c.args.rule.now.left.now right c.args.c.now.gates.now c.args.place.now c.requires.place, c.requires.cost, c.requires.left, is)
