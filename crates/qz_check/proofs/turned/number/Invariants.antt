use Rattle.std.proofs.Common.{◌≡◌, ℕ, ◌<◌, ◌==◌, length, vec_capacity, get_or}
use Rattle.std.specs.Prelude.{pos, if◌then◌else◌}
use Rattle.qz_check.proofs.turned.number.Given as goal

abbrev pub invariant-loop-turn : goal.invariant-loop-turn
invariant-loop-turn l = record {
  filled : length l.counts.items ≡ l.turn;
  room : vec_capacity l.counts ≡ 256;
  each : (m : ℕ) → m < l.turn → get_or l.counts.items m (pos 0) ≡ (if m == 0 then (if l.is_one then pos 1 else pos 0) else pos 0);
}
