use Rattle.qz_rewrite.proofs.Children.{children_gates, children_equivalent}
use Rattle.qz_rewrite.proofs.laws.steps_keep_the_unitary.Goals as goal

pub returns-clause-gates : goal.returns-clause-gates
returns-clause-gates _ = children_gates

pub returns-clause-equivalent : goal.returns-clause-equivalent
returns-clause-equivalent _ = children_equivalent
