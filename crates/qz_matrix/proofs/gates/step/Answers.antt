use Rattle.std.proofs.Common.{length, ap, ◌∙◌, arith}
use Rattle.qz_matrix.proofs.PlaceLemmas.{closed}
use Rattle.qz_matrix.proofs.gates.step.Goals as goal

pub step_h-requires-clause-closed : goal.step_h-requires-clause-closed
step_h-requires-clause-closed c = closed c.args.q c.in-H.t _ (rw c.in-H.is at c.requires.gate) c.requires.size

pub step_x-requires-clause-closed : goal.step_x-requires-clause-closed
step_x-requires-clause-closed c = closed c.args.q c.in-X.t _ (rw c.in-X.is at c.requires.gate) (ap length c.as_mut_slice.ensures.value ∙ c.requires.size)

pub step_cx-requires-clause-closed : goal.step_cx-requires-clause-closed
step_cx-requires-clause-closed c = let acts = rw c.in-Cx.is at c.requires.gate in closed c.args.q c.in-Cx.t _ (omega arith) (ap length c.as_mut_slice-in-Cx.ensures.value ∙ c.requires.size)
