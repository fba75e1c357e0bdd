use Rattle.qz_circ.proofs.BoundsLemmas.{in_range}
use Rattle.qz_circ.proofs.bound.Bounds.grain.Goals as goal

pub returns-clause-allowed : goal.returns-clause-allowed
returns-clause-allowed c = (in_range _ c.self.invariant).grain
