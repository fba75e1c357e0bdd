use Rattle.std.proofs.Common.{◌≡◌, ℕ, ◌<◌, length}
use Rattle.std.specs.Prelude.{slice_index}
use Rattle.qz_finger.specs.Actions.{AreBelow}
use Rattle.qz_finger.proofs.fill.filled.Given as goal

abbrev pub invariant-loop-k : goal.invariant-loop-k
invariant-loop-k g l = record {
  size : length l.numbers ≡ 64;
  filled : (m : ℕ) → m < l.k → goal.F-post g l.number m (slice_index l.numbers m);
  below : AreBelow l.numbers;
}
