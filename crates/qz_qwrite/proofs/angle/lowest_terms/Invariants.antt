use Rattle.std.proofs.Common.{◌≡◌, ◌≤◌}
use Rattle.qz_circ.specs.ProgramText.{lowest_terms}
use Rattle.qz_qwrite.proofs.angle.lowest_terms.Given as goal

abbrev pub invariant-loop-power : goal.invariant-loop-power
invariant-loop-power l = record { few : l.power ≤ 8; same : lowest_terms l.power l.numerator ≡ lowest_terms 8 l.m }

abbrev pub decreases-loop-power : goal.decreases-loop-power
decreases-loop-power l = l.power
