use Rattle.std.proofs.Common.{◌≡◌, ℕ, ◌<◌, ◌≤◌, false}
use Rattle.qz_match.specs.Walks.{acts_at}
use Rattle.qz_match.proofs.walk.last_before.Given as goal

-- no gate from i on and before j is on the qubit
abbrev pub invariant-loop-i : goal.invariant-loop-i
invariant-loop-i l = (l.i ≤ l.j) × ((x : ℕ) → l.i ≤ x → x < l.j → acts_at l.left l.s x ≡ false)

abbrev pub decreases-loop-i : goal.decreases-loop-i
decreases-loop-i l = l.i
