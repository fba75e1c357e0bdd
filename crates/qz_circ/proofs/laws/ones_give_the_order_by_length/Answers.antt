use Rattle.qz_circ.proofs.ProgramOrder.{cost_ones, by_ones}
use Rattle.qz_circ.proofs.laws.ones_give_the_order_by_length.Goals as goal

pub returns-clause-costs : goal.returns-clause-costs
returns-clause-costs _ = cost_ones

pub returns-clause-order : goal.returns-clause-order
returns-clause-order _ = by_ones
