use Rattle.std.proofs.Common.{ap, ◌∙◌, arith}
use Rattle.std.specs.List.{remove}
use Rattle.qz_core.proofs.Vectors.{lists_after}
use Rattle.qz_core.proofs.lists.remove_from.Goals as goal

pub returns-clause-lists : goal.returns-clause-lists
returns-clause-lists c =
    lists_after c.args.lists.now.items c.args.i c.remove.new.self c.index_mut.result.now (λ ranks. remove ranks c.args.place) (omega (arith, c.args.lists.now.ok.0))
    (c.remove.ensures.items ∙ ap (λ v. remove v.items c.args.place) c.index_mut.ensures.value)
