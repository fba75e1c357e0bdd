use Rattle.std.proofs.Common.{arith}
use Rattle.std.proofs.lemmas.Int.{ints}
use Rattle.qz_matrix.proofs.angles.exponent_of_angle.Goals as goal

pub returns-in-Minus-clause-reach : goal.returns-in-Minus-clause-reach
returns-in-Minus-clause-reach c = omega (arith, ints, c.power_at-in-Minus.ensures.least, c.power_at-in-Minus.ensures.most)
