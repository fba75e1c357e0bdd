use Rattle.std.proofs.Common.{◌<◌, length, sym, subst}
use Rattle.qz_check.proofs.PairLemmas.{pair_rz}
use Rattle.qz_check.proofs.column.step_rz.Goals as goal

pub returns : goal.returns
returns c = pair_rz c.args.t c.args.angle c.args.k c.flipped_state.result c.args.entries.now _ c.rotate.new.self c.flipped_state.ensures (subst (λ f. f < length c.args.entries.now) (sym c.flipped_state.ensures) c.requires.flipped) c.requires.bit c.rotate.ensures.counts c.rotate.ensures.small
