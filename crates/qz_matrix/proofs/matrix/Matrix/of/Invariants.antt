use Rattle.std.proofs.Common.{◌≡◌, take}
use Rattle.qz_matrix.specs.Entries.{StandsFor}
use Rattle.qz_matrix.proofs.matrix.Matrix.of.Given as goal

abbrev pub invariant-loop-op : goal.invariant-loop-op
invariant-loop-op l = record {
  qubits : l.matrix.q ≡ l.q;
  stands : StandsFor l.matrix (take l.op-index l.c);
}
