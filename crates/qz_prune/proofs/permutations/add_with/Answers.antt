use Rattle.std.proofs.Common.{◌≡◌, ◌++◌, [], ◌∷◌, map, ap, ◌∙◌, rules, take, arith}
use Rattle.qz_prune.specs.Permutations.{with_params, table, count}
use Rattle.qz_prune.proofs.PermutationLemmas.{each_more}
use Rattle.qz_prune.proofs.permutations.add_with.Goals as goal

-- one more
pub loop-number-preserved : goal.loop-number-preserved
loop-number-preserved c =
    let params = c.permutation-params.result in
    let pushed : c.push.new.self.items ≡ c.loop-number.relabellings.items ++ with_params c.args.qubits params ∷ [] = search rules in
    pushed ∙ ap (λ rs. rs ++ with_params c.args.qubits params ∷ []) c.loop-number.invariant ∙ each_more (with_params c.args.qubits) c.args.relabellings.now.items c.loop-number.number params c.permutation-params.ensures

pub returns : goal.returns
returns c =
    let all : c.loop-number.number ≡ count c.args.m = omega (arith, c.loop-number-test.false, c.loop-number.auto.number-end, c.permutations-number-end.ensures.count) in
    c.loop-number.invariant ∙ ap (λ n. c.args.relabellings.now.items ++ map (with_params c.args.qubits) (take n table)) all
