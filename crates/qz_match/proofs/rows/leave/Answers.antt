use Rattle.std.proofs.Common.{◌≤◌, sym, subst}
use Rattle.qz_match.proofs.RowSteps.{left_shared}
use Rattle.qz_match.proofs.rows.leave.Goals as goal

pub returns-clause-shared : goal.returns-clause-shared
returns-clause-shared c =
    let row = c.index-rows-left.result in
    left_shared c.args.rows.now c.args.left c.least-cursor.result row c.requires.lawful c.requires.within c.index-rows-left.is (subst (λ r. c.least-cursor.result ≤ r.shared) (sym c.index-rows-left.is) c.least-cursor.ensures.first)
