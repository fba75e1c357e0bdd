use Rattle.qz_check.proofs.ColumnLemmas.{zero_rooted, small_more}
use Rattle.std.proofs.Common.{arith}
use Rattle.qz_check.proofs.column.start_entry.Goals as goal

pub returns-then-is_one-clause-amounts : goal.returns-then-is_one-clause-amounts
returns-then-is_one-clause-amounts c = rw c.if-is_one.true c.in_ok-entry.ensures.counts

pub returns-clause-amounts : goal.returns-clause-amounts
returns-clause-amounts c = rw c.if-is_one.false (zero_rooted c.args.roots c.in_ok-entry-2.entry c.in_ok-entry-2.ensures.counts)

pub returns-clause-small : goal.returns-clause-small
returns-clause-small c = small_more 0 c.args.roots c.in_ok-entry-2.entry (omega arith) c.in_ok-entry-2.ensures.small
