use Rattle.std.proofs.Common.{arith, sym, ◌∙◌}
use Rattle.qz_io.proofs.ShelfLemmas.{bytes_at-found}
use Rattle.qz_io.proofs.sure_shelf.place_of.Goals as goal

pub returns-then-has_name-clause-found : goal.returns-then-has_name-clause-found
returns-then-has_name-clause-found c =
    bytes_at-found c.args.files.now c.args.name.now c.loop-k.k c.index-files-k.result (omega arith) c.index-files-k.is (sym c.has_name.ensures ∙ c.if-has_name.true) c.loop-k.invariant
