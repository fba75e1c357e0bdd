use Rattle.qz_core.proofs.Interleavings.{claims_are, claims_rise}
use Rattle.qz_core.proofs.laws.claims_give_the_list_in_order.Goals as goal

pub returns-clause-order : goal.returns-clause-order
returns-clause-order c = claims_are

pub returns-clause-once : goal.returns-clause-once
returns-clause-once c = claims_rise
