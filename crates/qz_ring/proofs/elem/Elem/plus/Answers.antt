use Rattle.std.proofs.Common.{false}
use Rattle.std.proofs.lemmas.Result.{IfOk-weaker}
use Rattle.qz_ring.specs.Merging.{IsMerged}
use Rattle.qz_ring.specs.Counts.{IsSum}
use Rattle.qz_ring.proofs.MergeSteps.{count-merged}
use Rattle.qz_ring.proofs.elem.Elem.plus.Goals as goal

-- the counts of the merged list
pub returns-clause-counts : goal.returns-clause-counts
returns-clause-counts c =
    let left = c.args.self.now in
    let right = c.args.other.now in
    IfOk-weaker c.combined.result (IsMerged false left right) (IsSum left right) (λ merged is e in_circle. count-merged false left right merged is e) c.combined.ensures
