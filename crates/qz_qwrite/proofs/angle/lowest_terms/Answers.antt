use Rattle.std.proofs.Common.{arith, sym, ◌∙◌}
use Rattle.qz_qwrite.proofs.Fractions.{lowest-halved, lowest-whole, lowest-odd}
use Rattle.qz_qwrite.proofs.angle.lowest_terms.Goals as goal
use Rattle.qz_qwrite.proofs.angle.lowest_terms.Goals.{then-loop-power-test+else-numerator-eq0, else-loop-power-test}

pub loop-power-preserved : goal.loop-power-preserved
loop-power-preserved c =
    record { few = omega arith; same = lowest-halved c.loop-power.power c.loop-power.numerator (omega arith) c.if-numerator-eq0.true ∙ c.loop-power.invariant.same }

pub returns : goal.returns
returns c =
    rw c.pow.ensures (elim c.loop-power-test.branch [
      | then-loop-power-test+else-numerator-eq0 w ↦ sym (lowest-odd c.loop-power.power c.loop-power.numerator (omega arith) w.if-numerator-eq0.false) ∙ c.loop-power.invariant.same
      | else-loop-power-test w ↦ sym (lowest-whole c.loop-power.power c.loop-power.numerator (omega arith)) ∙ c.loop-power.invariant.same
    ])
