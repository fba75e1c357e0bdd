use Rattle.std.proofs.Common.{length, ap, ◌∙◌, arith}
use Rattle.qz_ring.specs.Exponent.{reach_of}
use Rattle.qz_ring.specs.Terms.{Term, largest_reach}
use Rattle.qz_ring.proofs.Sums.{reach_within}
use Rattle.qz_ring.proofs.Counts.{count-read}
use Rattle.qz_ring.proofs.elem.Elem.term.Goals as goal

-- the term's powers are at most as large as the largest
pub returns-clause-reach : goal.returns-clause-reach
returns-clause-reach c =
    let terms = c.as_slice.result.now in
    let same = ap length (c.as_slice.ensures ∙ c.self.view_is) in
    let within = reach_within terms c.args.k c.index-as_slice-k.result (omega (arith, c.requires, same)) c.index-as_slice-k.is in
    let read = ap (λ (t : Term). reach_of t.exponent) c.term.view_is in
    omega (arith, within, read, ap largest_reach c.as_slice.ensures, c.self.invariant.2)

-- the term counts its coefficient
pub returns-clause-counted : goal.returns-clause-counted
returns-clause-counted c =
    let terms = c.as_slice.result.now in
    let view = c.as_slice.ensures ∙ c.self.view_is in
    let same = ap length view in
    count-read c.args.self.now terms c.args.k c.index-as_slice-k.result (record { exponent = c.term.inside.exponent; coefficient = c.term.inside.coefficient }) c.term.view_is view (omega (arith, c.requires, same)) c.index-as_slice-k.is (rw c.as_slice.ensures c.self.invariant.0) (rw c.as_slice.ensures c.self.invariant.1)
