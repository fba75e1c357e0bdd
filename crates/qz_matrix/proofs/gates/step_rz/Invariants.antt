use Rattle.qz_matrix.proofs.AfterGateLemmas.{IsTurnedBelow}
use Rattle.qz_matrix.proofs.gates.step_rz.Given as goal

abbrev pub invariant-loop-k : goal.invariant-loop-k
invariant-loop-k l = IsTurnedBelow l.t l.fn.angle l.k l.initial.entries l.entries
