use Rattle.std.proofs.Common.{◌≡◌, ◌≤◌, ◌++◌, ap, subst, sym, ◌∙◌, arith, rules, take}
use Rattle.std.specs.List.{flat_map}
use Rattle.qz_circ.proofs.BoundsLemmas.{in_range}
use Rattle.qz_prune.specs.Permutations.{with_each, table, count}
use Rattle.qz_prune.proofs.PermutationLemmas.{lists_more, relabellings_are}
use Rattle.qz_prune.proofs.permutations.relabellings.Goals as goal

pub permutations-number-end-requires : goal.permutations-number-end-requires
permutations-number-end-requires c = omega (arith, c.q.ensures.value, (in_range c.args.b c.q.ensures.lawful).qubits)

pub add_with-requires : goal.add_with-requires
add_with-requires c = omega (arith, c.m-m.ensures.value, (in_range c.args.b c.m-m.ensures.lawful).params)

-- those with one permutation more of the qubits
pub loop-number-preserved : goal.loop-number-preserved
loop-number-preserved c =
    c.in_ok-add_with.ensures ∙ ap (λ rs. rs ++ with_each c.m-m.result c.permutation.result) c.loop-number.invariant ∙
    lists_more (with_each c.m-m.result) c.loop-number.number c.permutation.result c.permutation.ensures

pub returns : goal.returns
returns c =
    let range = in_range c.args.b c.q.ensures.lawful in
    let all : c.loop-number.number ≡ count c.args.b.q =
    omega (arith, c.loop-number-test.false, c.loop-number.auto.number-end, c.permutations-number-end.ensures.count ∙ ap count c.q.ensures.value) in
    relabellings_are c.args.b range.qubits range.params c.loop-number.all.items
    (c.loop-number.invariant ∙ (λ i. flat_map (with_each (c.m-m.ensures.value i)) (take (all i) table)))
