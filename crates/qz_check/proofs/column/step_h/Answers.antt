use Rattle.std.proofs.Common.{◌<◌, length, sym, subst}
use Rattle.std.proofs.lemmas.List.{get_or_read}
use Rattle.qz_check.proofs.PairLemmas.{pair_h}
use Rattle.qz_check.proofs.column.step_h.Goals as goal

pub returns : goal.returns
returns c =
    let sums = c.args.entries.now in
    let f_in = subst (λ f. f < length c.args.entries.now) (sym c.flipped_state-flipped.ensures) c.requires.flipped in
    pair_h c.args.t c.args.k c.flipped_state-flipped.result sums _ _ _ _ c.in_ok-sum.sum c.in_ok-difference.difference c.flipped_state-flipped.ensures c.requires.place f_in c.requires.bit
    (get_or_read sums c.args.k _ c.requires.place c.index-entries-k.is _) (get_or_read sums c.flipped_state-flipped.result _ f_in c.index-entries-flipped.is _)
    (get_or_read sums c.args.k _ c.requires.place c.index-entries-k-2.is _) (get_or_read sums c.flipped_state-flipped.result _ f_in c.index-entries-flipped-2.is _)
    c.in_ok-sum.ensures.counts c.in_ok-difference.ensures.counts c.in_ok-sum.ensures.small c.in_ok-difference.ensures.small
