use Rattle.std.proofs.Common.{ℕ, ◌<◌, get_or}
use Rattle.qz_match.specs.Rows.{IsSkip}
use Rattle.qz_match.proofs.rows.skips_behind.Given as goal

abbrev pub invariant-loop-r : goal.invariant-loop-r
invariant-loop-r l = (r : ℕ) → r < 6 → IsSkip l.last l.shared l.n r (get_or l.skips r 0)
