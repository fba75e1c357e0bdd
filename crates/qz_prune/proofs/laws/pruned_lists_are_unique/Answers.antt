use Rattle.qz_prune.proofs.Covered.{pruned_same}
use Rattle.qz_prune.proofs.laws.pruned_lists_are_unique.Goals as goal

pub returns : goal.returns
returns _ = pruned_same
