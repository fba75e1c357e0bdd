use Rattle.std.proofs.Common.{◌≡◌, ◌≤◌, [], ◌∷◌, take, true}
use Rattle.qz_circ.specs.Places.{is_listed}
use Rattle.qz_match.specs.Walks.{reached}
use Rattle.qz_match.proofs.words.number_of.Given as goal

-- the gate is one of those that so many steps reach
abbrev pub invariant-loop-i : goal.invariant-loop-i
invariant-loop-i l = (l.i ≤ l.k) × (is_listed (reached (0 ∷ []) (take l.i l.steps)) l.gate ≡ true)

abbrev pub decreases-loop-i : goal.decreases-loop-i
decreases-loop-i l = l.i
