use Rattle.std.proofs.Common.{arith, sym, ◌∙◌}
use Rattle.qz_equiv.proofs.PhaseLemmas.{reach_at}
use Rattle.qz_equiv.proofs.zeros.lead_of.Goals as goal

pub returns-in-Some : goal.returns-in-Some
returns-in-Some c = record {
  proper = omega (arith, c.in-Some.ensures.half_turn);
  counted = λ h. c.in-Some.ensures.nonzero (sym c.in-Some.ensures.counted ∙ h);
  reach = reach_at c.args.entry.now 0 _ c.in-Some.ensures.first;
}
