use Rattle.qz_paths.proofs.Least.{representative_kept}
use Rattle.qz_paths.proofs.laws.representatives_are_kept.Goals as goal

pub returns : goal.returns
returns _ = representative_kept
