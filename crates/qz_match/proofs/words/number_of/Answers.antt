use Rattle.std.proofs.Common.{arith}
use Rattle.qz_match.proofs.WordSteps.{listed_before}
use Rattle.qz_match.proofs.words.number_of.Goals as goal

pub loop-i-preserved : goal.loop-i-preserved
loop-i-preserved c =
    let within = c.requires.within in
    (omega arith, listed_before c.args.steps.now c.loop-i.i c.args.gate c.loop-i-test.true (omega arith) c.loop-i.invariant.1 c.if-steps-i.false)
