use Rattle.std.proofs.Common.{sym}
use Rattle.qz_match.proofs.Flagged.{selected_fails, selected_passes}
use Rattle.qz_match.proofs.gather.pass_selected.Goals as goal

pub returns-then-meets : goal.returns-then-meets
returns-then-meets c = λ xs ys f g. selected_fails c.args.g xs ys c.args.chosen.now c.args.after.now f g (sym c.if-meets.ensures)

pub returns : goal.returns
returns c = λ xs ys f g. selected_passes c.args.g xs ys c.args.chosen.now c.args.after.now f g c.mark.new.flags (sym c.if-meets.ensures) c.mark.ensures
