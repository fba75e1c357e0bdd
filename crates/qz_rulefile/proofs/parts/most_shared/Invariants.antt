use Rattle.std.proofs.Common.{◌≡◌, ◌≤◌, drop, max, length}
use Rattle.qz_rulefile.specs.Reading.{shared}
use Rattle.qz_circ.specs.Vectors.{lists_of}
use Rattle.qz_rulefile.proofs.parts.most_shared.Given as goal

abbrev pub invariant-loop-k : goal.invariant-loop-k
invariant-loop-k l = record {
  same : max l.most (shared (drop l.k (lists_of l.texts)) l.bytes) ≡ shared (lists_of l.texts) l.bytes;
  within : l.most ≤ length l.bytes;
}
