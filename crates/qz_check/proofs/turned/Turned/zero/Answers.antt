use Rattle.std.proofs.Common.{arith}
use Rattle.qz_check.specs.Sums.{IsSmall}
use Rattle.qz_check.proofs.SumLemmas.{zero_amount, number_small, number_sum}
use Rattle.qz_check.proofs.turned.Turned.zero.Goals as goal

pub invariant_of-result : goal.invariant_of-result
invariant_of-result c = number_sum _ _ c.in_ok-counts.ensures (omega arith)

pub returns-clause-counts : goal.returns-clause-counts
returns-clause-counts c = zero_amount _ c.in_ok-counts.ensures

pub returns-clause-small : goal.returns-clause-small
unfolding IsSmall
returns-clause-small c = number_small _ _ c.in_ok-counts.ensures (omega arith)
