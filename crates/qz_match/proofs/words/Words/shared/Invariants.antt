use Rattle.std.proofs.Common.{◌≡◌, ◌-◌, ◌≤◌, length, take}
use Rattle.qz_match.proofs.words.Words.shared.Given as goal

-- the words so far are the same
abbrev pub invariant-loop-k : goal.invariant-loop-k
invariant-loop-k l = (take l.k l.ours ≡ take l.k l.others) × (l.k ≤ length l.ours)

abbrev pub decreases-loop-k : goal.decreases-loop-k
decreases-loop-k l = length l.ours - l.k
