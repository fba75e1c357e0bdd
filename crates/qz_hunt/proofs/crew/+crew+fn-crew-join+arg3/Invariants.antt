use Rattle.std.proofs.Common.{◌+◌, ◌*◌}
use Rattle.qz_hunt.proofs.crew.+crew+fn-crew-join+arg3.Given as goal

-- the shares of the pass; and of the closure the same, which its pass has
abbrev pub decreases-crew : goal.decreases-crew
decreases-crew g l = 2 * l.pass.view.shares

abbrev pub decreases-join+arg3 : goal.decreases-join+arg3
decreases-join+arg3 g l = 2 * l.rest.view.shares + 1
