use Rattle.qz_ring.proofs.Counts.{root2-twice}
use Rattle.qz_ring.proofs.laws.root2_twice_doubles.Goals as goal

pub returns : goal.returns
returns c = root2-twice
