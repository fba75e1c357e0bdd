use Rattle.std.proofs.Common.{◌≡◌, sym, subst, ◌∙◌, rules}
use Rattle.indexmap.specs.IndexSet.{contains}
use Rattle.qz_circ.specs.Bounds.{IsLawful}
use Rattle.qz_circ.specs.Relabellings.{renamed}
use Rattle.qz_prune.specs.Seen.{same_ranks, AreRanksOf}
use Rattle.qz_prune.proofs.GivenPairs.{gains_some, gains_none}
use Rattle.qz_prune.proofs.Steps.{when_ok}
use Rattle.qz_prune.proofs.seen.add_renamed.Goals as goal

-- the pair is added
pub returns : goal.returns
returns c =
    let b = c.args.b in
    let lawful : IsLawful b = search rules in
    let x = renamed c.args.r.qubits c.args.r.params c.args.left.now in
    let y = renamed c.args.r.qubits c.args.r.params c.args.right.now in
    let ranks = subst (AreRanksOf b x y) c.in-Some.is c.in_ok-ranks.ensures in
    let updates = when_ok c.insert.result (sym c.is_err.ensures.value ∙ c.if-is_err.false) c.insert.ensures.updates in
    gains_some b lawful x y c.in-Some.ranks (contains same_ranks c.args.seen.now) (contains same_ranks c.insert.new.self) ranks updates.0

-- one of the circuits isn't within the bounds
pub returns-in_default : goal.returns-in_default
returns-in_default c =
    let b = c.args.b in
    let lawful : IsLawful b = search rules in
    let x = renamed c.args.r.qubits c.args.r.params c.args.left.now in
    let y = renamed c.args.r.qubits c.args.r.params c.args.right.now in
    gains_none b lawful x y (contains same_ranks c.args.seen.now) (subst (AreRanksOf b x y) c.in_default.is c.in_ok-ranks.ensures)
