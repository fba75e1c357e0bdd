use Rattle.std.proofs.Common.{◌≡◌, ℕ, ◌+◌, ◌-◌, ◌<◌}
use Rattle.qz_check.specs.Sums.{amount}
use Rattle.qz_check.proofs.turned.Turned.is_turned.Given as goal

abbrev pub invariant-loop-turn : goal.invariant-loop-turn
invariant-loop-turn l = (m : ℕ) → m < l.turn → amount l.self m ≡ amount l.other (m + (512 - l.by))
