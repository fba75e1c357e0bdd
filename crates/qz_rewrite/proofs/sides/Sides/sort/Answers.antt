use Rattle.std.proofs.Common.{rules, ◌≡◌, ◌<◌, ◌==◌, length, cond, get_or, arith, refl}
use Rattle.qz_circ.specs.declared.circuit.Inst.TheVariants.{H}
use Rattle.qz_rewrite.proofs.Sorting.{one_sorted, sorted_to_last, sorted_to_end}
use Rattle.qz_rewrite.proofs.sides.Sides.sort.Goals as goal

pub returns-then-next-positions-clause-end : goal.returns-then-next-positions-clause-end
returns-then-next-positions-clause-end c = (sorted_to_last _ _ _ _ _ _ _ _ _ _ _ c.loop-i.invariant (search rules)).0

pub returns-then-next-positions-clause-before : goal.returns-then-next-positions-clause-before
returns-then-next-positions-clause-before c = (sorted_to_last _ _ _ _ _ _ _ _ _ _ _ c.loop-i.invariant (search rules)).1

pub returns-then-next-positions-clause-after : goal.returns-then-next-positions-clause-after
returns-then-next-positions-clause-after c = (sorted_to_last _ _ _ _ _ _ _ _ _ _ _ c.loop-i.invariant (search rules)).2

pub loop-i-preserved : goal.loop-i-preserved
loop-i-preserved c =
    let few = c.loop-i.invariant.few in
    let more : c.loop-i.next < length c.args.positions.now = omega arith in
    let within : c.loop-i.i < length c.args.c.now = omega arith in
    let gate : get_or c.args.c.now c.loop-i.i (get_or c.args.c.now c.loop-i.i (H 0)) ≡ get_or c.args.c.now c.loop-i.i (H 0) = search rules in
    let counts : c.from-next.result ≡ cond (get_or c.args.positions.now c.loop-i.next 0 == c.loop-i.i) 1 0 = search rules in
    one_sorted c.args.positions.now c.args.c.now c.args.first c.args.self.now.before.items c.args.self.now.after.items c.args.self.now.touched
    c.loop-i.self.before.items c.loop-i.self.after.items c.add.new.self.before.items c.add.new.self.after.items c.loop-i.self.touched c.add.new.self.touched c.loop-i.i c.loop-i.next c.from-next.result
    (get_or c.args.c.now c.loop-i.i (H 0)) (get_or c.args.positions.now c.loop-i.next 0 == c.loop-i.i) c.loop-i.invariant more within gate refl counts c.in_ok-add.ensures.before c.in_ok-add.ensures.after

pub returns-clause-end : goal.returns-clause-end
returns-clause-end c = let done = (sorted_to_end _ _ _ _ _ _ _ _ _ _ _ c.loop-i.invariant (omega arith)).0 in omega arith

pub returns-clause-before : goal.returns-clause-before
returns-clause-before c = (sorted_to_end _ _ _ _ _ _ _ _ _ _ _ c.loop-i.invariant (omega arith)).1

pub returns-clause-after : goal.returns-clause-after
returns-clause-after c = (sorted_to_end _ _ _ _ _ _ _ _ _ _ _ c.loop-i.invariant (omega arith)).2
