use Rattle.std.proofs.Common.{arith}
use Rattle.qz_lex.proofs.LexLemmas.{small_value, small_after, digit_at_front, within_by_digits, value_with_digit}
use Rattle.qz_lex.proofs.lex.value_of.Goals as goal

pub bounds-z-i : goal.bounds-z-i
bounds-z-i c = within_by_digits c.args.z.now c.loop-i.i (omega arith)

pub overflow_sub-z : goal.overflow_sub-z
overflow_sub-z c = (digit_at_front c.args.z.now c.loop-i.i (omega arith)).low

pub overflow_mul-value : goal.overflow_mul-value
overflow_mul-value c = record { fits = omega (arith, small_value c.loop-i.value c.loop-i.i c.loop-i.invariant.small (omega arith)) }

pub overflow_add-value : goal.overflow_add-value
overflow_add-value c =
    let here = digit_at_front c.args.z.now c.loop-i.i (omega arith) in
    record { fits = omega (arith, c.from.ensures, here.high, small_value c.loop-i.value c.loop-i.i c.loop-i.invariant.small (omega arith)) }

pub loop-i-preserved : goal.loop-i-preserved
loop-i-preserved c =
    let here = digit_at_front c.args.z.now c.loop-i.i (omega arith) in
    record {
      value = value_with_digit c.args.z.now c.loop-i.i c.loop-i.value c.from.result (omega arith) c.loop-i.invariant.value c.from.ensures;
      small = small_after c.loop-i.value c.loop-i.i c.from.result c.loop-i.invariant.small (omega (arith, c.from.ensures, here.high));
    }
