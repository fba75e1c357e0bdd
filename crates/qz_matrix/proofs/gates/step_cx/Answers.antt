use Rattle.qz_matrix.proofs.AfterGateLemmas.{after_cx}
use Rattle.qz_matrix.proofs.gates.step_cx.Goals as goal

pub returns : goal.returns
returns c = after_cx c.args.c c.args.t c.args.entries.now c.exchange.new.entries c.requires.closed c.exchange.ensures
