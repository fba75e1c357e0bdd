use Rattle.std.proofs.Common.{◌≡◌, ℕ, ◌<◌, false}
use Rattle.qz_check.specs.Columns.{flag}
use Rattle.qz_check.proofs.turns.is_one_left.Given as goal

abbrev pub invariant-loop-turn : goal.invariant-loop-turn
invariant-loop-turn l = (t : ℕ) → t < l.turn → flag l.possible t ≡ false
