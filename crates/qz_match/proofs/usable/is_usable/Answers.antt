use Rattle.std.proofs.Common.{sym, ◌∙◌}
use Rattle.qz_match.proofs.UsableRules.{usable-yes, usable-no}
use Rattle.qz_match.proofs.usable.is_usable.Goals as goal

pub returns-then-is_some : goal.returns-then-is_some
returns-then-is_some c = usable-yes c.args.left.now c.args.right.now c.covers.result (sym c.if-is_some.true ∙ c.is_some.ensures ∙ c.of-walk.ensures.connected) c.covers.ensures

pub returns-else-is_some : goal.returns-else-is_some
returns-else-is_some c = usable-no c.args.left.now c.args.right.now c.is_some.result c.if-is_some.false (sym c.if-is_some.false ∙ c.is_some.ensures ∙ c.of-walk.ensures.connected)
