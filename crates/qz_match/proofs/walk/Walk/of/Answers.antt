use Rattle.std.proofs.Common.{◌≡◌, ◌<◌, true, false, refl, [], ◌∷◌, get_or, take, length, sym, ◌∙◌, arith, rules, ltb, lt-ltb}
use Rattle.qz_circ.specs.Places.{is_connected}
use Rattle.qz_match.proofs.Walks.{under_way-more, walk_made, reached_kept}
use Rattle.qz_match.proofs.Connection.{walk_connected, stuck_apart}
use Rattle.qz_match.proofs.walk.Walk.of.Goals as goal

-- one step more
pub loop-seen-preserved : goal.loop-seen-preserved
loop-seen-preserved c = under_way-more c.args.left.now c.requires.short c.loop-seen.seen c.loop-seen.found c.loop-seen.count c.loop-seen.invariant c.in_ok-step.step c.in_ok-step.ensures

-- there is a walk, so left is connected
pub returns-clause-connected : goal.returns-clause-connected
returns-clause-connected c =
    let some : 0 < length c.args.left.now = search rules in
    let walk = walk_made c.args.left.now c.loop-seen.seen c.loop-seen.found c.loop-seen.count c.requires.short c.loop-seen.invariant (sym c.loop-seen-test.ensures) in
    let connected : is_connected c.args.left.now ≡ true = walk_connected _ _ walk in
    let nonempty : ltb 0 (length c.args.left.now) ≡ true = lt-ltb 0 (length c.args.left.now) some in
    rw (connected, nonempty)

-- no step is left, so it isn't
pub returns-in_err-step-clause-connected : goal.returns-in_err-step-clause-connected
returns-in_err-step-clause-connected c =
    let some : 0 < length c.args.left.now = search rules in
    let seen_size = c.loop-seen.invariant.seen_size in
    let short = c.requires.short in
    let first : get_or c.loop-seen.seen 0 false ≡ true = c.loop-seen.invariant.flags 0 (omega arith) ∙ reached_kept (take c.loop-seen.count c.loop-seen.found) (0 ∷ []) 0 refl in
    let apart : is_connected c.args.left.now ≡ false = stuck_apart c.args.left.now c.loop-seen.seen (omega arith) some c.in_err-step.ensures first (sym c.loop-seen-test.ensures) in
    let nonempty : ltb 0 (length c.args.left.now) ≡ true = lt-ltb 0 (length c.args.left.now) some in
    rw (c.from_residual.ensures, apart, nonempty)
