use Rattle.std.proofs.Common.{◌≡◌, ℕ, ◌<◌, length, get_or}
use Rattle.qz_match.proofs.place.Place.new.Given as goal

-- the positions so far are copied
abbrev pub invariant-loop-i : goal.invariant-loop-i
invariant-loop-i l = (length l.copied ≡ 6) × ((k : ℕ) → k < l.i → get_or l.copied k 0 ≡ get_or l.found k 0)
