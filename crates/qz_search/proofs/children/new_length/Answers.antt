use Rattle.std.proofs.Common.{length, ◌∙◌, arith}
use Rattle.qz_circ.specs.Instances.{bound_instance}
use Rattle.qz_subst.proofs.EquivalentInstances.{instance_length}
use Rattle.qz_rewrite.proofs.FoundPlaces.{rewritten_length}
use Rattle.qz_search.proofs.children.new_length.Goals as goal

pub overflow_add-result : goal.overflow_add-result
overflow_add-result c =
    let is = c.instance_len.ensures ∙ (λ i. length (bound_instance (c.binding.ensures i) c.args.rule.now.right.now)) in
    record { fits = omega (arith, c.requires.short, c.requires.few, instance_length c.args.place.now.binding c.args.rule.now.right.now, is) }

pub overflow_sub-result : goal.overflow_sub-result
overflow_sub-result c =
    let is = c.instance_len.ensures ∙ (λ i. length (bound_instance (c.binding.ensures i) c.args.rule.now.right.now)) in
    omega (arith, rewritten_length c.args.rule.now.left.now c.args.rule.now.right.now c.args.c.now c.args.place.now c.requires.place, is)

pub returns : goal.returns
returns c =
    let is = c.instance_len.ensures ∙ (λ i. length (bound_instance (c.binding.ensures i) c.args.rule.now.right.now)) in
    omega (arith, rewritten_length c.args.rule.now.left.now c.args.rule.now.right.now c.args.c.now c.args.place.now c.requires.place, is)
