use Rattle.std.proofs.Common.{◌≡◌, ◌<◌, ◌+◌, ◌==◌, ◌∷◌, Some, None, length, take, drop, sym, ap, ◌∙◌, arith}
use Rattle.std.specs.List.{slice_split, position_or_len}
use Rattle.std.proofs.lemmas.List.{take_all, drop_all, length-drop}
use Rattle.std.proofs.lemmas.List.Splits.{slice_split_first}
use Rattle.std.proofs.lemmas.Str.Pattern.{split_parts, split_once_first}
use Rattle.qz_top.proofs.Cuts.{uncut}
use Rattle.qz_top.proofs.cost_table.cut.Goals as goal

pub returns-in-Some-clause-before : goal.returns-in-Some-clause-before
returns-in-Some-clause-before c =
    (split_once_first c.args.at c.args.text.now (Some (c.in-Some.before, c.in-Some.after)) c.in-Some.ensures.cases c.requires).1

pub returns-in-Some-clause-after : goal.returns-in-Some-clause-after
returns-in-Some-clause-after c =
    (split_once_first c.args.at c.args.text.now (Some (c.in-Some.before, c.in-Some.after)) c.in-Some.ensures.cases c.requires).2

pub returns-in-Some-clause-shorter : goal.returns-in-Some-clause-shorter
returns-in-Some-clause-shorter c =
    let parts = split_once_first c.args.at c.args.text.now (Some (c.in-Some.before, c.in-Some.after)) c.in-Some.ensures.cases c.requires in
    let at = position_or_len (λ b. b == c.args.at) c.args.text.now in
    omega (arith, parts.0, ap length parts.2, length-drop (at + 1) c.args.text.now)

pub returns-in-Some-clause-split : goal.returns-in-Some-clause-split
returns-in-Some-clause-split c =
    let parts = split_once_first c.args.at c.args.text.now (Some (c.in-Some.before, c.in-Some.after)) c.in-Some.ensures.cases c.requires in
    slice_split_first (λ b. b == c.args.at) c.args.text.now 0 parts.0 ∙ (λ i. sym parts.1 i ∷ slice_split (λ b. b == c.args.at) (sym parts.2 i))

pub returns-in-None-clause-before : goal.returns-in-None-clause-before
returns-in-None-clause-before c =
    let whole = split_once_first c.args.at c.args.text.now None c.in-None.ensures.cases c.requires in
    sym (ap (λ n. take n c.args.text.now) whole ∙ take_all (length c.args.text.now) c.args.text.now (omega arith))

pub returns-in-None-clause-after : goal.returns-in-None-clause-after
returns-in-None-clause-after c =
    let whole = split_once_first c.args.at c.args.text.now None c.in-None.ensures.cases c.requires in
    sym (ap (λ n. drop (n + 1) c.args.text.now) whole ∙ drop_all (length c.args.text.now + 1) c.args.text.now (omega arith))

pub returns-in-None-clause-split : goal.returns-in-None-clause-split
returns-in-None-clause-split c = uncut c.args.at c.args.text.now (split_parts c.args.at c.args.text.now None c.in-None.ensures.cases c.requires)
