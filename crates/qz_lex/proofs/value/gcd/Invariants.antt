use Rattle.std.proofs.Common.{ℕ, ◌<◌, ◌+◌}
use Rattle.std.specs.Int.{IsGcd}
use Rattle.qz_lex.proofs.value.gcd.Given as goal

abbrev pub invariant-loop-y : goal.invariant-loop-y
invariant-loop-y l = record {
  same : (g : ℕ) → IsGcd l.x l.y g → IsGcd l.a l.b g;
  some : 0 < l.x + l.y;
}

abbrev pub decreases-loop-y : goal.decreases-loop-y
decreases-loop-y l = l.y
