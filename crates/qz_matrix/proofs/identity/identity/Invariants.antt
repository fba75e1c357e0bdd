use Rattle.std.proofs.Common.{◌≡◌, ℕ, ◌/◌, ◌%◌, ◌^◌, ◌<◌, length, vec_capacity}
use Rattle.qz_matrix.specs.Entries.{sum_at}
use Rattle.qz_matrix.specs.AfterGate.{identity_entry}
use Rattle.qz_matrix.proofs.identity.identity.Given as goal

abbrev pub invariant-loop-k : goal.invariant-loop-k
invariant-loop-k l = record {
  filled : length l.entries.items ≡ l.k;
  room : vec_capacity l.entries ≡ l.size;
  each : (m : ℕ) → m < l.k → sum_at l.entries.items m ≡ identity_entry (m % 2 ^ l.q) (m / 2 ^ l.q);
}
