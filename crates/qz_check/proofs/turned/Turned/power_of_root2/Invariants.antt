use Rattle.std.proofs.Common.{◌≡◌, ℕ, true}
use Rattle.qz_circ.specs.Exponent.{turn_of}
use Rattle.qz_circ.specs.Paths.{count, root2}
use Rattle.qz_check.specs.Sums.{amount, IsSmall, one_if}
use Rattle.qz_check.proofs.turned.Turned.power_of_root2.Given as goal

abbrev pub invariant-loop : goal.invariant-loop
invariant-loop l = record {
  counts : (n : ℕ) → amount l.power n ≡ count (root2 l.counter (one_if true)) (turn_of n);
  small : IsSmall l.counter l.power;
}
