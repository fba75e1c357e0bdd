use Rattle.std.proofs.Common.{◌≡◌, ℕ, ◌<◌, length, vec_capacity, get_or}
use Rattle.std.specs.Prelude.{pos}
use Rattle.qz_check.specs.Sums.{combine, counted_behind}
use Rattle.qz_check.proofs.turned.combined.Given as goal

abbrev pub invariant-loop-turn : goal.invariant-loop-turn
invariant-loop-turn l = record {
  filled : length l.counts.items ≡ l.turn;
  room : vec_capacity l.counts ≡ 256;
  each : (m : ℕ) → m < l.turn → get_or l.counts.items m (pos 0) ≡ combine l.negated (counted_behind l.left l.left_turn m) (counted_behind l.right l.right_turn m);
}
