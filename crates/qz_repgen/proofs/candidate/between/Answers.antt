use Rattle.std.proofs.Common.{◌≤◌, inl, inr, arith}
use Rattle.std.proofs.lemmas.Bool.{cases_lt}
use Rattle.qz_repgen.proofs.RisingRuns.{between}
use Rattle.qz_repgen.proofs.candidate.between.Goals as goal

-- what is above high is above low, so the places are in order
pub returns : goal.returns
returns c =
    let low = c.count_up_to-start in
    let high = c.count_up_to-end in
    let in_order : low.result ≤ high.result = elim (cases_lt high.result low.result) [
      | inl before ↦ absurd (omega (arith, c.requires.order, low.ensures.some, low.ensures.front high.result before, high.ensures.back high.result (omega arith) (omega (arith, low.ensures.some))))
      | inr after ↦ after
    ] in
    between c.args.numbers.now c.args.low c.args.high low.result high.result c.requires.rising in_order high.ensures.some low.ensures.front low.ensures.back high.ensures.front high.ensures.back
