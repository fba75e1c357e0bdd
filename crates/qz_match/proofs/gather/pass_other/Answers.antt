use Rattle.std.proofs.Common.{sym}
use Rattle.qz_match.proofs.Flagged.{other_comes, other_stays}
use Rattle.qz_match.proofs.gather.pass_other.Goals as goal

pub returns-then-is_late : goal.returns-then-is_late
returns-then-is_late c = λ xs ys f g. other_comes c.args.g xs ys c.args.chosen.now c.args.after.now f g c.mark.new.flags (sym c.if-is_late.ensures) c.mark.ensures

pub returns-else-is_late : goal.returns-else-is_late
returns-else-is_late c = λ xs ys f g. other_stays c.args.g xs ys c.args.chosen.now c.args.after.now f g (sym c.if-is_late.ensures)
