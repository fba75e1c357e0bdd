use Rattle.std.proofs.Common.{◌≡◌, true, arith}
use Rattle.qz_match.specs.Kinds.{is_shown}
use Rattle.qz_match.proofs.Lacking.{each_shown, shown_more}
use Rattle.qz_match.proofs.kinds.Kinds.of.Goals as goal

pub returns : goal.returns
returns c = each_shown (λ g. is_shown c.loop-g.kinds g ≡ true) c.args.c.now (λ x l. c.loop-g.invariant x (omega arith))

pub loop-g-preserved : goal.loop-g-preserved
loop-g-preserved c = shown_more c.args.c.now c.loop-g.kinds c.with_gate-kinds.result c.loop-g.g-index c.loop-g.invariant c.with_gate-kinds.ensures
