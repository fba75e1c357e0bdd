use Rattle.std.proofs.Common.{◌≡◌, ℕ, zero, suc, None, replicate, refl}
use Rattle.qz_circ.specs.Instances.{slot}
use Rattle.qz_match.proofs.neighbours.unknown.Goals as goal

none : (n w : ℕ) → slot (replicate n None) w ≡ None
none zero w = refl
none (suc n) zero = refl
none (suc n) (suc w) = none n w

pub returns-clause-none : goal.returns-clause-none
returns-clause-none c = λ w. none 64 w
