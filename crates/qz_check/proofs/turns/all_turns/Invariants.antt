use Rattle.std.proofs.Common.{◌≡◌, ℕ, ◌<◌, true, length, vec_capacity}
use Rattle.qz_check.specs.Columns.{flag}
use Rattle.qz_check.proofs.turns.all_turns.Given as goal

abbrev pub invariant-loop : goal.invariant-loop
invariant-loop l = record {
  filled : length l.possible.items ≡ l.counter;
  room : vec_capacity l.possible ≡ 512;
  each : (t : ℕ) → t < l.counter → flag l.possible.items t ≡ true;
}
