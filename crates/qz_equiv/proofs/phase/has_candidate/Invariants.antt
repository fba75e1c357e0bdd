use Rattle.std.proofs.Common.{ℕ, ◌<◌}
use Rattle.qz_equiv.specs.Phases.{IsMultipleMatrix}
use Rattle.qz_equiv.proofs.PhaseLemmas.{FailsAt}
use Rattle.qz_equiv.proofs.phase.has_candidate.Given as goal

abbrev pub invariant-loop-k : goal.invariant-loop-k
invariant-loop-k l = (k : ℕ) → k < l.k → FailsAt l.lead (λ u. IsMultipleMatrix l.roots u l.x l.y) l.other k
