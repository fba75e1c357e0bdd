use Rattle.qz_check.proofs.SumLemmas.{small_read, combined_sum, combined_amounts, combined_smalls}
use Rattle.qz_check.proofs.turned.Turned.combined.Goals as goal

pub invariant_of-result : goal.invariant_of-result
invariant_of-result c = combined_sum _ _ _ _ _ _ c.in_ok-counts.ensures (small_read 119 _ _ _ _ c.deref.ensures.value c.self.view_is c.requires.first) (small_read 119 _ _ _ _ c.deref-2.ensures.value c.other.view_is c.requires.second)

pub returns-clause-counts : goal.returns-clause-counts
returns-clause-counts c = combined_amounts c.args.negated _ _ _ _ c.in_ok-counts.counts.items _ _ c.args.self.now c.args.other.now c.deref.ensures.value c.deref-2.ensures.value c.self.view_is c.other.view_is c.in_ok-counts.ensures

pub returns-clause-small : goal.returns-clause-small
returns-clause-small c = λ h first second. combined_smalls _ _ _ _ _ _ _ c.in_ok-counts.ensures h (small_read h _ _ _ _ c.deref.ensures.value c.self.view_is first) (small_read h _ _ _ _ c.deref-2.ensures.value c.other.view_is second)
