use Rattle.std.proofs.Common.{◌≡◌, ℕ, ◌*◌, ◌<◌, ◌≤◌}
use Rattle.qz_finger.specs.Modulo.{sum_below}
use Rattle.qz_finger.specs.Weights.{place_of}
use Rattle.qz_finger.proofs.trace.diagonal.Given as goal

abbrev pub invariant-loop-i : goal.invariant-loop-i
invariant-loop-i g l = record {
  sum : (f : ℕ → ℕ) → ((k x : ℕ) → k < 64 → goal.F-post g l.number k x → x ≡ f k) → l.total ≡ sum_below (λ i. f (place_of l.q i i)) l.i;
  small : l.total ≤ l.i * 18446744073709551615;
}
