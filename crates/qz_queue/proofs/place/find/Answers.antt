use Rattle.std.proofs.Common.{◌≡◌, ◌<◌, length, sym, ap, ◌∙◌, arith}
use Rattle.std.specs.Ordering.{is_lt}
use Rattle.std.proofs.lemmas.List.{length-map}
use Rattle.std.proofs.lemmas.List.Sums.{count_by-le-length}
use Rattle.std.proofs.lemmas.Bool.Decides.{nat_tests}
use Rattle.qz_circ.specs.ProgramCircuits.{program_cmp}
use Rattle.qz_queue.specs.Circuits.{circuits_of}
use Rattle.qz_queue.proofs.QueueLists.{place_below, found_none, found_at, found_there}
use Rattle.qz_queue.proofs.Fronts.{known_front, no_sides, new_left, new_right}
use Rattle.qz_queue.proofs.place.find.Goals as goal

pub loop-low-init : goal.loop-low-init
loop-low-init c =
    let vs = c.args.list.now in
    let long : length vs ≡ length (circuits_of vs) = sym (length-map vs (λ v. v.gates.items)) in
    let few = count_by-le-length (λ d. is_lt (program_cmp c.args.weights d c.args.c.now)) (circuits_of vs) in
    (omega arith, omega (arith, few, long), omega arith, no_sides c.args.weights (circuits_of vs) c.args.c.now (length vs), found_none c.args.weights (circuits_of vs) c.args.c.now (length vs) c.requires.ordered (omega (arith, long)))

pub compare_from-order-requires-clause-same : goal.compare_from-order-requires-clause-same
compare_from-order-requires-clause-same c =
    known_front c.args.weights (circuits_of c.args.list.now) c.args.c.now c.loop-low.low c.probe-middle.result c.loop-low.high c.loop-low.low_same c.loop-low.high_same c.min.result c.requires.ordered c.probe-middle.ensures.from c.probe-middle.ensures.below c.loop-low.invariant.3 c.min.ensures

pub loop-low-preserved-then-is_lt : goal.loop-low-preserved-then-is_lt
loop-low-preserved-then-is_lt c =
    let vs = c.args.list.now in
    let middle = c.probe-middle.result in
    let within : middle < length (circuits_of vs) = omega (arith, length-map vs (λ v. v.gates.items), c.loop-low.invariant.2, c.probe-middle.ensures.below) in
    let tells = sym (place_below c.args.weights (circuits_of vs) c.args.c.now middle c.requires.ordered within) ∙ ap is_lt (sym c.compare_from-order.ensures.order) ∙ sym c.is_lt.ensures ∙ c.if-is_lt.true in
    (grind (arith, nat_tests, tells), c.loop-low.invariant.1, c.loop-low.invariant.2, new_left c.args.weights (circuits_of vs) c.args.c.now c.loop-low.low middle c.loop-low.high c.loop-low.low_same c.loop-low.high_same c.compare_from-order.result.1 c.loop-low.invariant.3 c.compare_from-order.ensures.same, c.loop-low.invariant.4)

pub loop-low-preserved : goal.loop-low-preserved
loop-low-preserved c =
    let vs = c.args.list.now in
    let middle = c.probe-middle.result in
    let within : middle < length (circuits_of vs) = omega (arith, length-map vs (λ v. v.gates.items), c.loop-low.invariant.2, c.probe-middle.ensures.below) in
    let tells = sym (place_below c.args.weights (circuits_of vs) c.args.c.now middle c.requires.ordered within) ∙ ap is_lt (sym c.compare_from-order.ensures.order) ∙ sym c.is_lt.ensures ∙ c.if-is_lt.false in
    (c.loop-low.invariant.0, grind (arith, nat_tests, tells), omega (arith, c.loop-low.invariant.2, c.probe-middle.ensures.below), new_right c.args.weights (circuits_of vs) c.args.c.now c.loop-low.low middle c.loop-low.high c.loop-low.low_same c.loop-low.high_same c.compare_from-order.result.1 c.loop-low.invariant.3 within c.compare_from-order.ensures.same, found_at c.args.weights (circuits_of vs) c.args.c.now middle c.compare_from-order.result.0 c.is_eq-found.result c.requires.ordered within c.compare_from-order.ensures.order c.is_eq-found.ensures)

pub returns-clause-there : goal.returns-clause-there
returns-clause-there c =
    found_there c.args.weights (circuits_of c.args.list.now) c.args.c.now c.loop-low.low c.loop-low.high c.loop-low.found c.loop-low.invariant.0 c.loop-low.invariant.1 c.loop-low-test.false c.loop-low.invariant.4
