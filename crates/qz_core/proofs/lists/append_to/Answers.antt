use Rattle.std.proofs.Common.{◌++◌, [], ◌∷◌, ap, ◌∙◌, arith}
use Rattle.qz_core.proofs.Vectors.{lists_after}
use Rattle.qz_core.proofs.lists.append_to.Goals as goal

pub returns-clause-lists : goal.returns-clause-lists
returns-clause-lists c =
    lists_after c.args.lists.now.items c.args.i c.push_reserved.new.self c.index_mut.result.now (λ ranks. ranks ++ c.args.r ∷ []) (omega (arith, c.args.lists.now.ok.0))
    (c.push_reserved.ensures.items ∙ ap (λ v. v.items ++ c.args.r ∷ []) c.index_mut.ensures.value)
