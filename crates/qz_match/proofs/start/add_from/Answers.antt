use Rattle.std.proofs.Common.{◌≡◌, ◌++◌, [], sym, ap, ◌∙◌}
use Rattle.std.proofs.lemmas.List.{append-nil}
use Rattle.qz_match.specs.Starts.{starting}
use Rattle.qz_match.proofs.Candidates.{never_begins}
use Rattle.qz_match.proofs.Starts.{starting_none}
use Rattle.qz_match.proofs.start.add_from.Goals as goal

-- no place begins at a gate that isn't a first one
pub returns-then-not-are_alike : goal.returns-then-not-are_alike
returns-then-not-are_alike c =
    let none : starting c.args.left.now c.args.c.now c.args.p ≡ [] = starting_none c.args.left.now c.args.c.now c.args.p c.requires.some c.requires.within (never_begins c.args.left.now c.args.c.now c.args.p c.requires.some c.requires.on c.requires.lawful (sym c.are_alike.ensures ∙ c.if-not-are_alike.true)) in
    sym (ap (λ xs. c.args.found.now.items ++ xs) none ∙ append-nil c.args.found.now.items)
