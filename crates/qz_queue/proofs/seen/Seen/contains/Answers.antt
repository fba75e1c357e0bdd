use Rattle.std.proofs.Common.{sym}
use Rattle.qz_circ.proofs.ProgramOrder.{cost_ones}
use Rattle.qz_queue.proofs.seen.Seen.contains.Goals as goal

pub find-requires-clause-price : goal.find-requires-clause-price
find-requires-clause-price c = sym (cost_ones c.args.c.now)
