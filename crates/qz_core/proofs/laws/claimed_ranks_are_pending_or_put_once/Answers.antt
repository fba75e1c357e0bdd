use Rattle.qz_core.proofs.Interleavings.{always, claimed_is, unclaimed_is}
use Rattle.qz_core.proofs.laws.claimed_ranks_are_pending_or_put_once.Goals as goal

pub returns-clause-claimed : goal.returns-clause-claimed
returns-clause-claimed c = always _ claimed_is

pub returns-clause-unclaimed : goal.returns-clause-unclaimed
returns-clause-unclaimed c = always _ unclaimed_is
