use Rattle.qz_paths.proofs.Members.{members_equivalent}
use Rattle.qz_paths.proofs.laws.members_are_equivalent.Goals as goal

pub returns : goal.returns
returns _ = members_equivalent
