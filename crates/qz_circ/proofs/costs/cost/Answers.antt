use Rattle.std.proofs.Common.{arith}
use Rattle.qz_circ.proofs.ProgramOrder.{cost_most}
use Rattle.qz_circ.proofs.costs.cost.Goals as goal

pub overflow_cast-result : goal.overflow_cast-result
overflow_cast-result c =
    record { fits = omega (arith, c.requires.few, c.price.ensures, cost_most c.args.weights c.requires.weights c.args.c.now) }
