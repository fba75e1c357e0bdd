use Rattle.std.proofs.Common.{◌≡◌, ℕ, ◌<◌, length, vec_capacity}
use Rattle.qz_circ.specs.declared.circuit.Op.TheVariants.{H}
use Rattle.qz_matrix.specs.Entries.{sum_at}
use Rattle.qz_matrix.specs.AfterGate.{IsNext}
use Rattle.qz_matrix.proofs.gates.mixed.Given as goal

abbrev pub invariant-loop-k : goal.invariant-loop-k
invariant-loop-k l = record {
  filled : length l.mixed.items ≡ l.k;
  room : vec_capacity l.mixed ≡ length l.entries;
  each : (m : ℕ) → m < l.k → IsNext (H l.t) l.entries m (sum_at l.mixed.items m);
}
