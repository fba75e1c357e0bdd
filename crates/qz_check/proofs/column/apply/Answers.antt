use Rattle.std.proofs.Common.{sym, ap, subst, ◌∙◌, ◌+◌, arith}
use Rattle.qz_circ.specs.Paths.{has_bit, flipped_state}
use Rattle.qz_check.specs.Sums.{IsSmall}
use Rattle.qz_check.specs.Columns.{target_of}
use Rattle.qz_check.proofs.PairLemmas.{IsDoneBelow, next_first, next_second, done_skip, done_pair}
use Rattle.qz_check.proofs.column.apply.Goals.{then-not-has_bit+in_ok-apply_to_pair, else-not-has_bit}
use Rattle.qz_check.proofs.column.apply.Goals as goal

pub apply_to_pair-requires-clause-small : goal.apply_to_pair-requires-clause-small
apply_to_pair-requires-clause-small c = λ is_h.
    let bit = ap (λ t. has_bit t c.loop-k.k) (sym c.target_of-t.ensures.value) ∙ sym c.has_bit.ensures ∙ c.if-not-has_bit.true in
    subst (IsSmall 119) (sym (next_first c.args.gate c.loop-k.k c.args.entries.now c.loop-k.entries bit c.loop-k.invariant)) (c.requires.small is_h c.loop-k.k (omega arith))

pub apply_to_pair-requires-clause-flipped_small : goal.apply_to_pair-requires-clause-flipped_small
apply_to_pair-requires-clause-flipped_small c = λ is_h.
    let bit = ap (λ t. has_bit t c.loop-k.k) (sym c.target_of-t.ensures.value) ∙ sym c.has_bit.ensures ∙ c.if-not-has_bit.true in
    subst (IsSmall 119) (sym (next_second c.args.gate c.loop-k.k c.args.entries.now c.loop-k.entries bit c.loop-k.invariant)) (c.requires.small is_h (flipped_state (target_of c.args.gate) c.loop-k.k) (c.requires.closed c.loop-k.k (omega arith)))

pub loop-k-preserved : goal.loop-k-preserved
loop-k-preserved c = elim c.if-not-has_bit.branch [
  | then-not-has_bit+in_ok-apply_to_pair w ↦ (
      let bit = ap (λ t. has_bit t c.loop-k.k) (sym c.target_of-t.ensures.value) ∙ sym c.has_bit.ensures ∙ w.if-not-has_bit.true in
      subst (IsDoneBelow c.args.gate (c.loop-k.k + 1) c.args.entries.now) (sym w.entries-is)
      (done_pair c.args.gate c.loop-k.k c.args.entries.now c.loop-k.entries _ bit c.loop-k.invariant w.in_ok-apply_to_pair.ensures))
  | else-not-has_bit w ↦ (
      let bit = ap (λ t. has_bit t c.loop-k.k) (sym c.target_of-t.ensures.value) ∙ sym c.has_bit.ensures ∙ w.if-not-has_bit.false in
      subst (IsDoneBelow c.args.gate (c.loop-k.k + 1) c.args.entries.now) (sym w.entries-is)
      (done_skip c.args.gate c.loop-k.k c.args.entries.now c.loop-k.entries bit c.loop-k.invariant))
]
