use Rattle.qz_check.proofs.SumLemmas.{small_read, combined_sum, root_amounts, combined_smalls}
use Rattle.qz_check.proofs.turned.Turned.times_root2.Goals as goal

pub invariant_of-result : goal.invariant_of-result
invariant_of-result c = combined_sum _ _ _ _ _ _ c.in_ok-counts.ensures (small_read 119 _ _ _ _ c.deref.ensures.value c.self.view_is c.requires) (small_read 119 _ _ _ _ c.deref-2.ensures.value c.self.view_is c.requires)

pub returns-clause-counts : goal.returns-clause-counts
returns-clause-counts c = root_amounts _ _ _ c.in_ok-counts.counts.items _ c.args.self.now c.self.invariant.turn c.deref.ensures.value c.deref-2.ensures.value c.self.view_is c.in_ok-counts.ensures

pub returns-clause-small : goal.returns-clause-small
returns-clause-small c = λ h small. combined_smalls _ _ _ _ _ _ _ c.in_ok-counts.ensures h (small_read h _ _ _ _ c.deref.ensures.value c.self.view_is small) (small_read h _ _ _ _ c.deref-2.ensures.value c.self.view_is small)
