use Rattle.qz_paths.proofs.Completeness.{joins_equivalent}
use Rattle.qz_paths.proofs.laws.class_lists_are_complete.Goals as goal

pub returns : goal.returns
returns _ = joins_equivalent
