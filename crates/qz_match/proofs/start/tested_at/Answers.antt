use Rattle.std.proofs.Common.{◌≡◌, ◌<◌, true, take, length, sym, ap, ◌∙◌, arith, rules, subst, Some}
use Rattle.std.proofs.lemmas.List.{length-take, get_or-take}
use Rattle.qz_match.specs.Starts.{rises}
use Rattle.qz_match.proofs.GatherSteps.{rises-from}
use Rattle.qz_match.proofs.Matching.{rise_from, tested_unbound, tested_apart, tested_place}
use Rattle.qz_match.proofs.start.tested_at.Goals as goal

pub bound_at-requires-clause-within : goal.bound_at-requires-clause-within
bound_at-requires-clause-within c = λ i l.
    let six : length c.args.found.now ≡ 6 = search rules in
    let short = c.requires.short in
    let rising : rises 0 (length c.args.c.now) (take (length c.args.left.now) c.args.found.now) ≡ true = sym c.if-not-are_rising.ensures in
    let in_range = (rise_from 0 (length c.args.c.now) (take (length c.args.left.now) c.args.found.now) (rises-from 0 (length c.args.c.now) (take (length c.args.left.now) c.args.found.now) rising) i (omega (arith, length-take (length c.args.left.now) c.args.found.now))).1 in
    subst (λ x. x < length c.args.c.now) (get_or-take (length c.args.left.now) c.args.found.now i 0 l) in_range

pub returns-in_err-binding : goal.returns-in_err-binding
returns-in_err-binding c =
    let six : length c.args.found.now ≡ 6 = search rules in
    let short = c.requires.short in
    c.from_residual.ensures ∙ sym (tested_unbound c.args.left.now c.args.c.now (take (length c.args.left.now) c.args.found.now) (omega (arith, length-take (length c.args.left.now) c.args.found.now)) (sym c.if-not-are_rising.ensures) (sym c.in_err-binding.ensures))

pub returns-then-not-gather_at : goal.returns-then-not-gather_at
returns-then-not-gather_at c =
    let six : length c.args.found.now ≡ 6 = search rules in
    let short = c.requires.short in
    sym (tested_apart c.args.left.now c.args.c.now (take (length c.args.left.now) c.args.found.now) (omega (arith, length-take (length c.args.left.now) c.args.found.now)) (sym c.if-not-are_rising.ensures) (sym c.if-not-gather_at.ensures))

pub returns : goal.returns
returns c =
    let six : length c.args.found.now ≡ 6 = search rules in
    let short = c.requires.short in
    ap Some c.new.ensures ∙ sym (tested_place c.args.left.now c.args.c.now (take (length c.args.left.now) c.args.found.now) (omega (arith, length-take (length c.args.left.now) c.args.found.now)) (sym c.if-not-are_rising.ensures) c.in_ok-binding.binding (sym c.in_ok-binding.ensures) (sym c.if-not-gather_at.ensures))
