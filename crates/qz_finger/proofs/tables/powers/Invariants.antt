use Rattle.std.proofs.Common.{◌≡◌, ℕ, ◌%◌, ◌^◌, ◌<◌, length}
use Rattle.std.specs.Prelude.{slice_index}
use Rattle.qz_finger.specs.Modulo.{modulus}
use Rattle.qz_finger.proofs.tables.powers.Given as goal

abbrev pub invariant-loop-k : goal.invariant-loop-k
invariant-loop-k l = record {
  size : length l.powers ≡ 32;
  filled : (m : ℕ) → m < l.k → slice_index l.powers m ≡ l.base ^ m % modulus;
  next : l.power ≡ l.base ^ l.k % modulus;
}
