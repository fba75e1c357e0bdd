use Rattle.std.proofs.Common.{◌≡◌, ℕ, suc, ◌<◌, length, get_or}
use Rattle.qz_match.specs.Words.{word_at, IsFirstWord, IsWordOf}
use Rattle.qz_match.proofs.words.Words.of.Given as goal

-- the words so far are those of the first steps
abbrev pub invariant-loop-k : goal.invariant-loop-k
invariant-loop-k l = (length l.list ≡ 6) × IsFirstWord l.left (word_at l.list 0) × ((j : ℕ) → j < l.k → IsWordOf l.left l.steps j (word_at l.list (suc j)))
