use Rattle.std.proofs.Common.{◌-◌}
use Rattle.qz_equiv.proofs.PhaseLemmas.{answer_yes, zero_phase, unlike}
use Rattle.qz_equiv.proofs.phase.same_up_to_phase.Goals as goal

pub returns-then-not-are_alike_matrices : goal.returns-then-not-are_alike_matrices
returns-then-not-are_alike_matrices c = unlike (c.args.x.now.halves - c.args.y.now.halves) c.args.x.now c.args.y.now _ c.if-not-are_alike_matrices.true c.are_alike_matrices.ensures

pub returns-in-None : goal.returns-in-None
returns-in-None c = answer_yes (zero_phase (c.args.x.now.halves - c.args.y.now.halves) c.args.x.now c.args.y.now (c.are_alike_matrices.ensures.0 c.if-not-are_alike_matrices.false) c.in-None.ensures)
