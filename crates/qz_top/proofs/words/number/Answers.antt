use Rattle.std.proofs.Common.{arith}
use Rattle.qz_top.proofs.WordLemmas.{small_value}
use Rattle.qz_top.proofs.words.number.Goals as goal

pub overflow_mul-value : goal.overflow_mul-value
overflow_mul-value c = record { fits = omega (arith, small_value c.loop-digit.value c.loop-digit.digit-index c.loop-digit.invariant.small (omega arith)) }

pub overflow_add-value : goal.overflow_add-value
overflow_add-value c = record { fits = omega (arith, c.if-not-is_ascii_digit.ensures.bound, small_value c.loop-digit.value c.loop-digit.digit-index c.loop-digit.invariant.small (omega arith)) }
