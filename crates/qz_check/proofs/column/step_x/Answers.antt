use Rattle.qz_check.proofs.PairLemmas.{pair_x}
use Rattle.qz_check.proofs.column.step_x.Goals as goal

pub returns : goal.returns
returns c = pair_x c.args.t c.args.k c.flipped_state.result c.args.entries.now c.exchange.new.entries c.flipped_state.ensures c.exchange.ensures
