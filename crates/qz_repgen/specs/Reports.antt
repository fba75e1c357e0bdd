-- The report of a generation.
use Rattle.std.specs.Prelude.{◌≡◌, ℕ, ◌*◌, ◌<◌, List, length, sum_by}
use Rattle.qz_circ.specs.Bounds.{gate_count}
use Rattle.qz_circ.specs.Circuit.{Limits}
use Rattle.qz_circ.specs.Classes.{IsRepresentativeRank, IsClassList}
use Rattle.qz_circ.specs.Order.{circuit_at}
use Rattle.qz_circ.specs.declared.report.Report.{Report}
use Rattle.qz_shard.specs.Shards.{print_at}
use Rattle.qz_repgen.specs.Journals.{IsKeptRank}
use Rattle.qz_repgen.specs.Numbers.{IsNumberOf}

-- r is the rank of a representative that has fewer gates than the limits allow
pub record IsExtended (b : Limits) (r : ℕ) : Type 0 where
  pub representative : IsRepresentativeRank b r
  pub short : length (circuit_at b r) < b.n

-- the number is the fingerprint of a kept circuit
pub record IsPrint (b : Limits) (seed : ℕ) (print : ℕ) : Type 0 where
  pub rank : ℕ
  pub kept : IsKeptRank b rank
  pub own : print_at b seed rank ≡ print

-- the counts of a generation: each representative of fewer gates than the limits allow with each gate after it; the kept
-- circuits; the lists of the class list, and the circuits in all of them; and the different fingerprints of kept circuits
pub record IsReport (b : Limits) (seed : ℕ) (report : Report) : Type 0 where
  pub representatives : ℕ
  pub each_representative : IsNumberOf (IsExtended b) representatives
  pub extended : report.extended ≡ representatives * gate_count b
  pub kept : IsNumberOf (IsKeptRank b) report.kept
  pub lists : List (List ℕ)
  pub class_list : IsClassList b lists
  pub classes : report.classes ≡ length lists
  pub members : report.members ≡ sum_by length lists
  pub prints : IsNumberOf (IsPrint b seed) report.prints
