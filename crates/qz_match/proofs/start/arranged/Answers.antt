use Rattle.std.proofs.Common.{◌≡◌, ◌<◌, ◌+◌, false, length, get_or, sym, subst, arith, rules}
use Rattle.std.proofs.lemmas.List.{take_all}
use Rattle.qz_match.specs.Walks.{IsWalk}
use Rattle.qz_match.specs.Words.{AreReached}
use Rattle.qz_match.proofs.Candidates.{IsWalked, steps_small, walked_first, walked_with, walked_all}
use Rattle.qz_match.proofs.WordsLead.{reached_step}
use Rattle.qz_match.proofs.start.arranged.Goals as goal

pub loop-k-init : goal.loop-k-init
loop-k-init c = walked_first c.args.left.now c.args.c.now c.args.cursor.now.first c.steps-steps.result.now

pub loop-k-preserved : goal.loop-k-preserved
loop-k-preserved c =
    let walk = subst (IsWalk c.args.left.now) (sym c.steps-steps.ensures.same) c.requires.walk in
    walked_with c.args.left.now c.args.c.now c.args.cursor.now.first c.steps-steps.result.now c.loop-k.k c.loop-k.positions c.requires.short walk c.loop-k.invariant (record { from = 0; operand = 0; forward = false; to = 0 }) c.loop-k-test.true (get_or c.args.cursor.now.found (c.loop-k.k + 1) 0)
    (λ ps m. reached_step c.args.left.now c.args.c.now c.args.cursor.now.first c.steps-steps.result.now c.args.cursor.now.found c.loop-k.k (subst (λ steps. AreReached c.args.left.now steps c.args.c.now c.args.cursor.now.first c.args.cursor.now.found) (sym c.steps-steps.ensures.same) c.requires.reached) c.loop-k-test.true ps m)

pub returns : goal.returns
returns c =
    let walk = subst (IsWalk c.args.left.now) (sym c.steps-steps.ensures.same) c.requires.walk in
    let over = c.loop-k-test.false in
    walked_all c.args.left.now c.args.c.now c.args.cursor.now.first c.steps-steps.result.now c.loop-k.positions c.loop-k.k c.requires.short c.requires.some c.requires.on c.requires.lawful walk (take_all c.loop-k.k c.steps-steps.result.now (omega arith)) c.loop-k.invariant
