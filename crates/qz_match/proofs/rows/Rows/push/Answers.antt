use Rattle.std.proofs.Common.{◌≡◌, ◌++◌, ◌∷◌, [], sym, subst, rules}
use Rattle.qz_match.specs.Rows.{AreRows, IsRowBehind}
use Rattle.qz_match.proofs.RowSteps.{rows_more}
use Rattle.qz_match.proofs.rows.Rows.push.Goals as goal

pub invariant_of-self-2 : goal.invariant_of-self-2
invariant_of-self-2 c =
    let pushed : c.push.new.self.items ≡ c.self.inside.list.items ++ c.row_behind-row.result ∷ [] = search rules in
    let new : IsRowBehind c.self.inside.list.items c.args.words.now c.row_behind-row.result = rw c.deref.ensures.value at c.row_behind-row.ensures in
    subst AreRows (sym pushed) (rows_more c.self.inside.list.items c.args.words.now c.row_behind-row.result c.self.invariant new)
