use Rattle.std.proofs.Common.{◌≡◌, ◌++◌, sym, subst, ◌∙◌, rules}
use Rattle.indexmap.specs.IndexSet.{contains}
use Rattle.qz_circ.specs.Circuit.{Circuit}
use Rattle.qz_circ.specs.Order.{circuit_at}
use Rattle.qz_prune.specs.Seen.{same_ranks, Gains, IsMade}
use Rattle.qz_prune.proofs.Steps.{pair_of_ranks, not_taken, taken}
use Rattle.qz_prune.proofs.seen.take_pair.Goals as goal

pub returns-then-contains : goal.returns-then-contains
returns-then-contains c =
    not_taken c.args.b (pair_of_ranks c.args.first c.args.later) (contains same_ranks c.args.seen.now) c.requires.pair (sym c.contains.ensures ∙ c.if-contains.true)

pub returns : goal.returns
returns c =
    let b = c.args.b in
    let old = contains same_ranks c.args.seen.now in
    let new = contains same_ranks c.add_all.new.seen in
    let first = subst (λ (x : Circuit). Gains b (IsMade b c.args.all.now x c.deref-2.result.now) old new) (c.deref.ensures.value ∙ c.in_ok-left.ensures.circuit) c.in_ok-add_all.ensures in
    let both = subst (λ (y : Circuit). Gains b (IsMade b c.args.all.now (circuit_at b c.args.first) y) old new) (c.deref-2.ensures.value ∙ c.in_ok-right.ensures.circuit) first in
    taken b (pair_of_ranks c.args.first c.args.later) old new c.args.all.now c.requires.pair (sym c.contains.ensures ∙ c.if-contains.false) c.requires.relabellings both
