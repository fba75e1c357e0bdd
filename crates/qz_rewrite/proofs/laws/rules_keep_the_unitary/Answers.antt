use Rattle.qz_rewrite.proofs.FoundPlaces.{replaced_gates, replaced_equivalent}
use Rattle.qz_rewrite.proofs.laws.rules_keep_the_unitary.Goals as goal

pub returns-clause-gates : goal.returns-clause-gates
returns-clause-gates _ = replaced_gates

pub returns-clause-equivalent : goal.returns-clause-equivalent
returns-clause-equivalent _ = replaced_equivalent
