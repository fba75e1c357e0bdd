use Rattle.std.proofs.Common.{◌≡◌, ◌+◌, ◌++◌, [], ◌∷◌, sym, ap, ◌∙◌, arith, rules, append_assoc}
use Rattle.std.specs.List.{range_with_len}
use Rattle.qz_circ.proofs.CircuitPlaces.{range-append}
use Rattle.qz_repgen.proofs.candidate.add_up_to.Goals as goal

-- one number more
pub loop-k-preserved : goal.loop-k-preserved
loop-k-preserved c =
    let pushed : c.push.new.self.items ≡ c.loop-k.found.items ++ (c.loop-k.k + 1) ∷ [] = search rules in
    let old = c.args.found.now.items in
    let next : 1 + c.loop-k.k ≡ c.loop-k.k + 1 = omega arith in
    let more : range_with_len 1 (c.loop-k.k + 1) ≡ range_with_len 1 c.loop-k.k ++ (c.loop-k.k + 1) ∷ [] = range-append 1 c.loop-k.k 1 ∙ ap (λ x. range_with_len 1 c.loop-k.k ++ x ∷ []) next in
    pushed ∙ ap (λ xs. xs ++ (c.loop-k.k + 1) ∷ []) c.loop-k.invariant ∙ append_assoc old (range_with_len 1 c.loop-k.k) ((c.loop-k.k + 1) ∷ []) ∙ ap (λ xs. old ++ xs) (sym more)
