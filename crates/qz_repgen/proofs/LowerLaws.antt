-- What the crate of circuits shows of ranks, as a generation uses it.
use Rattle.std.proofs.Common.{◌-◌, length}
use Rattle.qz_circ.specs.Circuit.{Circuit, Limits, Within}
use Rattle.qz_circ.specs.Classes.{without_first, without_last}
use Rattle.qz_circ.specs.Bounds.{IsLawful}
use Rattle.qz_circ.proofs.CircuitPlaces.{circuit_at-within, within-drop, within-take}
use Rattle.qz_circ.proofs.RankLemmas.{circuit_at-rank, rank_listed, rank-circuit_at, before_by_rank}
use Rattle.qz_repgen.proofs.RankLaws.{RanksAreOrder}

-- ranks are places in the order of the circuits within lawful limits
pub ranks_are_order : (b : Limits) → IsLawful b → RanksAreOrder b
ranks_are_order b h = record {
  at_rank = circuit_at-rank b h;
  below = rank_listed b h;
  within_at = λ r below. circuit_at-within b r below;
  rank_at = rank-circuit_at b h;
  rises = λ c d wc wd before. (before_by_rank b h c d wc wd).0 before;
  rises_only = λ c d wc wd lower. (before_by_rank b h c d wc wd).1 lower;
}

-- without its first gate it is within them
pub first_within : (b : Limits) (c : Circuit) → Within b c → Within b (without_first c)
first_within b c w = within-drop b 1 c w

-- and without its last
pub last_within : (b : Limits) (c : Circuit) → Within b c → Within b (without_last c)
last_within b c w = within-take b (length c - 1) c w
