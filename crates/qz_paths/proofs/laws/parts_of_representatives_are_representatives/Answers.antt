use Rattle.qz_paths.proofs.Parts.{part_representative}
use Rattle.qz_paths.proofs.laws.parts_of_representatives_are_representatives.Goals as goal

pub returns : goal.returns
returns _ = part_representative
