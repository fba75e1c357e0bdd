use Rattle.std.proofs.Common.{true}
use Rattle.std.proofs.lemmas.Result.{IfOk-weaker}
use Rattle.qz_ring.specs.Merging.{IsMerged}
use Rattle.qz_ring.specs.Counts.{IsDifference}
use Rattle.qz_ring.proofs.MergeSteps.{count-merged}
use Rattle.qz_ring.proofs.elem.Elem.minus.Goals as goal

-- the counts of the merged list
pub returns-clause-counts : goal.returns-clause-counts
returns-clause-counts c =
    let left = c.args.self.now in
    let right = c.args.other.now in
    IfOk-weaker c.combined.result (IsMerged true left right) (IsDifference left right) (λ merged is e in_circle. count-merged true left right merged is e) c.combined.ensures
