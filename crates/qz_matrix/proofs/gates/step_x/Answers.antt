use Rattle.qz_matrix.proofs.AfterGateLemmas.{after_x}
use Rattle.qz_matrix.proofs.gates.step_x.Goals as goal

pub returns : goal.returns
returns c = after_x c.args.t c.args.entries.now c.exchange.new.entries c.requires.closed c.exchange.ensures
