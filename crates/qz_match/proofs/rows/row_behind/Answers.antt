use Rattle.qz_match.proofs.RowSteps.{row_after}
use Rattle.qz_match.proofs.rows.row_behind.Goals as goal

pub returns-in-Some : goal.returns-in-Some
returns-in-Some c =
    row_after c.args.rows.now c.in-Some.last.now c.args.words.now c.copy.result c.shared-shared.result c.skips_behind.result c.copy.ensures c.in-Some.ensures.item.3.0 c.in-Some.ensures.item.3.1 c.shared-shared.ensures c.skips_behind.ensures
