use Rattle.std.proofs.Common.{arith}
use Rattle.qz_matrix.proofs.ExchangeLemmas.{exchanged_none, exchanged_more, exchanged_all}
use Rattle.qz_matrix.proofs.gates.exchange.Goals as goal

pub loop-k-init : goal.loop-k-init
loop-k-init c = exchanged_none c.args.control c.args.target c.args.entries.now

pub loop-k-preserved : goal.loop-k-preserved
loop-k-preserved c =
    exchanged_more c.args.control c.args.target c.loop-k.k c.args.entries.now c.loop-k.entries c.swap_where.new.entries c.requires.apart (omega arith) (c.requires.closed c.loop-k.k (omega arith)) c.loop-k.invariant (omega arith)
    c.flipped_state-flipped.result c.is_first_chosen-wanted.result c.flipped_state-flipped.ensures c.is_first_chosen-wanted.ensures c.swap_where.ensures

pub returns : goal.returns
returns c = exchanged_all c.args.control c.args.target c.loop-k.k c.args.entries.now c.loop-k.entries (omega arith) c.loop-k.invariant
