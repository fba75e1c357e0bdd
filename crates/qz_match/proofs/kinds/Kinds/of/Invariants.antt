use Rattle.std.proofs.Common.{◌≡◌, ◌<◌, ℕ, true}
use Rattle.qz_match.specs.Kinds.{is_shown}
use Rattle.qz_match.specs.Neighbours.{gate_at}
use Rattle.qz_match.proofs.kinds.Kinds.of.Given as goal

-- the gates so far are of the kinds
abbrev pub invariant-loop-g : goal.invariant-loop-g
invariant-loop-g l = (x : ℕ) → x < l.g-index → is_shown l.kinds (gate_at l.c x) ≡ true
