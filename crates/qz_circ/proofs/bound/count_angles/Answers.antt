use Rattle.std.proofs.Common.{sym}
use Rattle.qz_circ.proofs.GateNumbers.{angle_table}
use Rattle.qz_circ.proofs.bound.count_angles.Goals as goal

pub returns-clause-count : goal.returns-clause-count
returns-clause-count c = rw c.saturating_sub.ensures (sym (angle_table c.args.m c.args.grain c.requires.params c.requires.grain).count)
