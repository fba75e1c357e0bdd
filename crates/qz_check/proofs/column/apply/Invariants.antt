use Rattle.qz_check.proofs.PairLemmas.{IsDoneBelow}
use Rattle.qz_check.proofs.column.apply.Given as goal

abbrev pub invariant-loop-k : goal.invariant-loop-k
invariant-loop-k l = IsDoneBelow l.gate l.k l.initial.entries l.entries
