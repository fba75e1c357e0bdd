use Rattle.std.proofs.Common.{sym, ◌∙◌, subst, rules, false}
use Rattle.std.proofs.lemmas.List.{take_all}
use Rattle.qz_match.specs.Walks.{IsWalk}
use Rattle.qz_match.specs.Starts.{AreOnly}
use Rattle.qz_match.proofs.Candidates.{steps_small, walk_stops, walk_leaves, walk_differs, walked_more, walked_all}
use Rattle.qz_match.proofs.start.candidate.Goals as goal

pub bounds-found-step : goal.bounds-found-step
bounds-found-step c = (steps_small c.args.left.now c.steps-steps.result.now (subst (IsWalk c.args.left.now) (sym c.steps-steps.ensures.same) c.requires.walk) c.requires.short (record { from = 0; operand = 0; forward = false; to = 0 }) c.loop-step.step-index c.loop-step-test.true).from

pub offset_bounds-found-step : goal.offset_bounds-found-step
offset_bounds-found-step c =
    let small = (steps_small c.args.left.now c.steps-steps.result.now (subst (IsWalk c.args.left.now) (sym c.steps-steps.ensures.same) c.requires.walk) c.requires.short (record { from = 0; operand = 0; forward = false; to = 0 }) c.loop-step.step-index c.loop-step-test.true).from in search rules

pub bounds-found-step-in-loop-step : goal.bounds-found-step-in-loop-step
bounds-found-step-in-loop-step c = (steps_small c.args.left.now c.steps-steps.result.now (subst (IsWalk c.args.left.now) (sym c.steps-steps.ensures.same) c.requires.walk) c.requires.short (record { from = 0; operand = 0; forward = false; to = 0 }) c.loop-step.step-index c.loop-step-test.true).to

pub offset_bounds-found-step-in-loop-step : goal.offset_bounds-found-step-in-loop-step
offset_bounds-found-step-in-loop-step c =
    let small = (steps_small c.args.left.now c.steps-steps.result.now (subst (IsWalk c.args.left.now) (sym c.steps-steps.ensures.same) c.requires.walk) c.requires.short (record { from = 0; operand = 0; forward = false; to = 0 }) c.loop-step.step-index c.loop-step-test.true).to in search rules

pub beside-requires : goal.beside-requires
beside-requires c = (steps_small c.args.left.now c.steps-steps.result.now (subst (IsWalk c.args.left.now) (sym c.steps-steps.ensures.same) c.requires.walk) c.requires.short (record { from = 0; operand = 0; forward = false; to = 0 }) c.loop-step.step-index c.loop-step-test.true).operand

pub returns-in_err-next : goal.returns-in_err-next
returns-in_err-next c =
    subst (AreOnly c.args.left.now c.args.c.now c.args.p) (sym c.from_residual.ensures)
    (walk_stops c.args.left.now c.args.c.now c.args.p c.steps-steps.result.now c.args.neighbours.now.links c.loop-step.step-index c.loop-step.found c.requires.short c.requires.on c.requires.lawful (subst (IsWalk c.args.left.now) (sym c.steps-steps.ensures.same) c.requires.walk) c.requires.links c.loop-step.invariant (record { from = 0; operand = 0; forward = false; to = 0 }) c.loop-step-test.true (sym c.in_err-next.ensures))

pub loop-step-preserved : goal.loop-step-preserved
loop-step-preserved c =
    walked_more c.args.left.now c.args.c.now c.args.p c.steps-steps.result.now c.args.neighbours.now.links c.loop-step.step-index c.loop-step.found c.requires.short c.requires.on c.requires.lawful (subst (IsWalk c.args.left.now) (sym c.steps-steps.ensures.same) c.requires.walk) c.requires.links c.loop-step.invariant (record { from = 0; operand = 0; forward = false; to = 0 }) c.loop-step-test.true c.in_ok-next.next (sym c.in_ok-next.ensures)

pub returns : goal.returns
returns c =
    let over = c.loop-step-test.false in
    walked_all c.args.left.now c.args.c.now c.args.p c.steps-steps.result.now c.loop-step.found c.loop-step.step-index c.requires.short c.requires.some c.requires.on c.requires.lawful (subst (IsWalk c.args.left.now) (sym c.steps-steps.ensures.same) c.requires.walk) (take_all c.loop-step.step-index c.steps-steps.result.now over) c.loop-step.invariant

pub returns-then-next-c : goal.returns-then-next-c
returns-then-next-c c = walk_leaves c.args.left.now c.args.c.now c.args.p c.steps-steps.result.now c.args.neighbours.now.links c.loop-step.step-index c.loop-step.found c.requires.short c.requires.on c.requires.lawful (subst (IsWalk c.args.left.now) (sym c.steps-steps.ensures.same) c.requires.walk) c.requires.links c.loop-step.invariant (record { from = 0; operand = 0; forward = false; to = 0 }) c.loop-step-test.true c.in_ok-next.next (sym c.in_ok-next.ensures) c.if-next-c.true

pub bounds-left-step : goal.bounds-left-step
bounds-left-step c = (steps_small c.args.left.now c.steps-steps.result.now (subst (IsWalk c.args.left.now) (sym c.steps-steps.ensures.same) c.requires.walk) c.requires.short (record { from = 0; operand = 0; forward = false; to = 0 }) c.loop-step.step-index c.loop-step-test.true).inside

pub offset_bounds-left-step : goal.offset_bounds-left-step
offset_bounds-left-step c =
    let small = (steps_small c.args.left.now c.steps-steps.result.now (subst (IsWalk c.args.left.now) (sym c.steps-steps.ensures.same) c.requires.walk) c.requires.short (record { from = 0; operand = 0; forward = false; to = 0 }) c.loop-step.step-index c.loop-step-test.true).to in search rules

pub returns-then-not-are_alike : goal.returns-then-not-are_alike
returns-then-not-are_alike c = walk_differs c.args.left.now c.args.c.now c.args.p c.steps-steps.result.now c.args.neighbours.now.links c.loop-step.step-index c.loop-step.found c.requires.short c.requires.on c.requires.lawful (subst (IsWalk c.args.left.now) (sym c.steps-steps.ensures.same) c.requires.walk) c.requires.links c.loop-step.invariant (record { from = 0; operand = 0; forward = false; to = 0 }) c.loop-step-test.true c.in_ok-next.next (sym c.in_ok-next.ensures) (sym c.are_alike.ensures ∙ c.if-not-are_alike.true)
