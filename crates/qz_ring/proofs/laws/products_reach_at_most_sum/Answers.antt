use Rattle.qz_ring.proofs.Sums.{reach_times_le}
use Rattle.qz_ring.proofs.laws.products_reach_at_most_sum.Goals as goal

pub returns : goal.returns
returns c = reach_times_le
