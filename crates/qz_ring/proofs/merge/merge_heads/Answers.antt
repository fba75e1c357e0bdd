use Rattle.std.proofs.Common.{◌+◌, drop, sym, ap, subst, ◌∙◌, ◌++◌, [], ◌∷◌, arith}
use Rattle.qz_ring.specs.Terms.{Term, Terms}
use Rattle.qz_ring.specs.Merging.{IsMerging, sum_of_two}
use Rattle.qz_ring.proofs.MergeSteps.{before_read, step_left, step_right, step_both}
use Rattle.qz_ring.proofs.merge.merge_heads.Goals as goal

-- the left term comes first
pub loop-i-preserved-in-Less : goal.loop-i-preserved-in-Less
loop-i-preserved-in-Less c =
    let exponent = λ (t : Term). t.exponent in
    let x = c.index-left-i.result in
    let y = c.index-right-j.result in
    let before = before_read c.a.inside.exponent c.b.inside.exponent x.exponent y.exponent (ap exponent c.a.view_is) (ap exponent c.b.view_is) c.in-Less.ensures in
    let step = step_left c.args.negated c.args.left.now c.args.right.now c.loop-i.merged.items c.loop-i.i c.loop-i.j x y c.loop-i-test.true c.if-j-right.true c.index-left-i.is c.index-right-j.is c.loop-i.invariant.merging before in
    record {
      merging = subst (λ (ts : Terms). IsMerging c.args.negated c.args.left.now c.args.right.now ts (drop (c.loop-i.i + 1) c.args.left.now) (drop c.loop-i.j c.args.right.now)) (sym c.push_reserved.ensures.items) step;
      left_within = omega arith;
      right_within = omega arith;
      room = omega (arith, c.push_reserved.ensures.capacity, c.loop-i.invariant.room);
    }

-- the right term comes first
pub loop-i-preserved-in-Greater : goal.loop-i-preserved-in-Greater
loop-i-preserved-in-Greater c =
    let exponent = λ (t : Term). t.exponent in
    let x = c.index-left-i.result in
    let y = c.index-right-j.result in
    let before = before_read c.b.inside.exponent c.a.inside.exponent y.exponent x.exponent (ap exponent c.b.view_is) (ap exponent c.a.view_is) c.in-Greater.ensures in
    let step = step_right c.args.negated c.args.left.now c.args.right.now c.loop-i.merged.items c.loop-i.i c.loop-i.j x y c.loop-i-test.true c.if-j-right.true c.index-left-i.is c.index-right-j.is c.loop-i.invariant.merging before in
    let made = c.push_reserved-in-Greater.ensures.items ∙ ap (λ (t : Term). c.loop-i.merged.items ++ t ∷ []) c.with_sign.ensures in
    record {
      merging = subst (λ (ts : Terms). IsMerging c.args.negated c.args.left.now c.args.right.now ts (drop c.loop-i.i c.args.left.now) (drop (c.loop-i.j + 1) c.args.right.now)) (sym made) step;
      left_within = omega arith;
      right_within = omega arith;
      room = omega (arith, c.push_reserved-in-Greater.ensures.capacity, c.loop-i.invariant.room);
    }

-- the terms meet
pub loop-i-preserved : goal.loop-i-preserved
loop-i-preserved c =
    let exponent = λ (t : Term). t.exponent in
    let x = c.index-left-i.result in
    let y = c.index-right-j.result in
    let same = sym (ap exponent c.a.view_is) ∙ c.in-Equal.ensures ∙ ap exponent c.b.view_is in
    let step = step_both c.args.negated c.args.left.now c.args.right.now c.loop-i.merged.items c.loop-i.i c.loop-i.j x y c.loop-i-test.true c.if-j-right.true c.index-left-i.is c.index-right-j.is c.loop-i.invariant.merging same in
    let made = c.push_both.ensures.items ∙ ap (λ (t : Term). c.loop-i.merged.items ++ sum_of_two x t) c.with_sign-in-Equal.ensures in
    record {
      merging = subst (λ (ts : Terms). IsMerging c.args.negated c.args.left.now c.args.right.now ts (drop (c.loop-i.i + 1) c.args.left.now) (drop (c.loop-i.j + 1) c.args.right.now)) (sym made) step;
      left_within = omega arith;
      right_within = omega arith;
      room = omega (arith, c.push_both.ensures.capacity, c.loop-i.invariant.room);
    }
