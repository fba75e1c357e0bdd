use Rattle.qz_check.proofs.PairLemmas.{pair_cx}
use Rattle.qz_check.proofs.column.step_cx.Goals as goal

pub returns : goal.returns
returns c = pair_cx c.args.c c.args.t c.args.k c.flipped_state.result c.has_bit.result c.args.entries.now c.exchange.new.entries c.requires.apart c.flipped_state.ensures c.has_bit.ensures c.exchange.ensures
