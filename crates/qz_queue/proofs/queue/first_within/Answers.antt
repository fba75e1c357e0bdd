use Rattle.std.proofs.Common.{◌≡◌, true, length, rules}
use Rattle.std.specs.Prelude.{nat_le}
use Rattle.qz_queue.proofs.FirstOnes.{first_passing}
use Rattle.qz_queue.proofs.queue.first_within.Goals as goal

pub returns-then-len-most-clause-first : goal.returns-then-len-most-clause-first
returns-then-len-most-clause-first c =
    first_passing (λ d. nat_le (length d) c.args.most) c.args.list.now c.loop-p.p-index c.p-item.result c.loop-p.invariant c.loop-p-test.true c.p-item.is (search rules)
