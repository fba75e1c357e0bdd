use Rattle.std.proofs.Common.{◌≡◌, ◌<◌, ◌≤◌, ◌==◌, take, length, get_or, sym, ap, subst, arith, rules}
use Rattle.std.proofs.lemmas.List.{length-take, get_or-take}
use Rattle.qz_match.specs.Neighbours.{gate_at}
use Rattle.qz_match.specs.Flags.{Passes}
use Rattle.qz_match.proofs.GatherSteps.{gathering_first, gathering_within, gathering_more, gathering_fails, gathering_done}
use Rattle.qz_match.proofs.gather.gather_at.Goals as goal

pub loop-k-init : goal.loop-k-init
loop-k-init c =
    let short = c.requires.short in
    let found_size = c.type_inv.found in
    let some : 0 < length (take c.args.count c.args.found.now) = omega (arith, length-take c.args.count c.args.found.now) in
    let nonempty = c.requires.some in
    gathering_first c.args.c.now (take c.args.count c.args.found.now) (get_or c.args.found.now 0 0) c.unmarked-chosen.result c.unmarked-after.result some c.requires.rising (sym (get_or-take c.args.count c.args.found.now 0 0 nonempty)) c.unmarked-chosen.ensures c.unmarked-after.ensures

pub bounds-c-x : goal.bounds-c-x
bounds-c-x c =
    let short = c.requires.short in
    let more : c.loop-k.k < length (take c.args.count c.args.found.now) = omega (arith, length-take c.args.count c.args.found.now) in
    gathering_within c.args.c.now (take c.args.count c.args.found.now) c.loop-k.x c.loop-k.k c.loop-k.chosen c.loop-k.after c.loop-k.invariant more

pub offset_bounds-c-x : goal.offset_bounds-c-x
offset_bounds-c-x c =
    let short = c.requires.short in
    let more : c.loop-k.k < length (take c.args.count c.args.found.now) = omega (arith, length-take c.args.count c.args.found.now) in
    let within = gathering_within c.args.c.now (take c.args.count c.args.found.now) c.loop-k.x c.loop-k.k c.loop-k.chosen c.loop-k.after c.loop-k.invariant more in
    search rules

pub overflow_add-x : goal.overflow_add-x
overflow_add-x c =
    let short = c.requires.short in
    let more : c.loop-k.k < length (take c.args.count c.args.found.now) = omega (arith, length-take c.args.count c.args.found.now) in
    let within = gathering_within c.args.c.now (take c.args.count c.args.found.now) c.loop-k.x c.loop-k.k c.loop-k.chosen c.loop-k.after c.loop-k.invariant more in
    search rules

pub loop-k-smaller : goal.loop-k-smaller
loop-k-smaller c =
    let short = c.requires.short in
    let more : c.loop-k.k < length (take c.args.count c.args.found.now) = omega (arith, length-take c.args.count c.args.found.now) in
    let within = gathering_within c.args.c.now (take c.args.count c.args.found.now) c.loop-k.x c.loop-k.k c.loop-k.chosen c.loop-k.after c.loop-k.invariant more in
    omega arith

pub returns-then-not-pass : goal.returns-then-not-pass
returns-then-not-pass c =
    let short = c.requires.short in
    let below : c.loop-k.k < c.args.count = c.loop-k-test.true in
    let more : c.loop-k.k < length (take c.args.count c.args.found.now) = omega (arith, length-take c.args.count c.args.found.now) in
    let h = c.loop-k.invariant in
    let same : get_or (take c.args.count c.args.found.now) c.loop-k.k 0 ≡ get_or c.args.found.now c.loop-k.k 0 = get_or-take c.args.count c.args.found.now c.loop-k.k 0 below in
    let passes = c.pass.ensures h.xs h.ys h.chosen_flagged h.after_flagged in
    sym (gathering_fails c.args.c.now (take c.args.count c.args.found.now) c.loop-k.x c.loop-k.k c.loop-k.chosen c.loop-k.after h more (get_or c.args.found.now c.loop-k.k 0 == c.loop-k.x) c.pass.new.chosen c.pass.new.after (ap (λ p. p == c.loop-k.x) same)
    (subst (λ r. Passes (get_or c.args.found.now c.loop-k.k 0 == c.loop-k.x) (gate_at c.args.c.now c.loop-k.x) h.xs h.ys c.pass.new.chosen c.pass.new.after r) c.if-not-pass.true passes))

pub loop-k-preserved : goal.loop-k-preserved
loop-k-preserved c =
    let short = c.requires.short in
    let below : c.loop-k.k < c.args.count = c.loop-k-test.true in
    let more : c.loop-k.k < length (take c.args.count c.args.found.now) = omega (arith, length-take c.args.count c.args.found.now) in
    let h = c.loop-k.invariant in
    let same : get_or (take c.args.count c.args.found.now) c.loop-k.k 0 ≡ get_or c.args.found.now c.loop-k.k 0 = get_or-take c.args.count c.args.found.now c.loop-k.k 0 below in
    let passes = c.pass.ensures h.xs h.ys h.chosen_flagged h.after_flagged in
    rw c.advanced-k.ensures (gathering_more c.args.c.now (take c.args.count c.args.found.now) c.loop-k.x c.loop-k.k c.loop-k.chosen c.loop-k.after h more (get_or c.args.found.now c.loop-k.k 0 == c.loop-k.x) c.pass.new.chosen c.pass.new.after (ap (λ p. p == c.loop-k.x) same)
    (subst (λ r. Passes (get_or c.args.found.now c.loop-k.k 0 == c.loop-k.x) (gate_at c.args.c.now c.loop-k.x) h.xs h.ys c.pass.new.chosen c.pass.new.after r) c.if-not-pass.false passes))

pub returns : goal.returns
returns c =
    let over = c.loop-k-test.false in
    let all : length (take c.args.count c.args.found.now) ≤ c.loop-k.k = omega (arith, length-take c.args.count c.args.found.now) in
    sym (gathering_done c.args.c.now (take c.args.count c.args.found.now) c.loop-k.x c.loop-k.k c.loop-k.chosen c.loop-k.after c.loop-k.invariant all)
