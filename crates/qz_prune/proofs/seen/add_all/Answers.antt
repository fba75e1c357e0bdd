use Rattle.std.proofs.Common.{◌≡◌, List, ◌+◌, ◌++◌, [], ◌∷◌, take, subst, sym, rules}
use Rattle.std.proofs.lemmas.List.{take_all, take_more}
use Rattle.indexmap.specs.IndexSet.{contains}
use Rattle.qz_prune.specs.declared.relabelling.Relabelling.{Relabelling}
use Rattle.qz_prune.specs.Seen.{same_ranks, Gains, IsMade}
use Rattle.qz_prune.proofs.GivenPairs.{gains_of_none, gains_at}
use Rattle.qz_prune.proofs.seen.add_all.Goals as goal

pub loop-r-init : goal.loop-r-init
loop-r-init c = gains_of_none c.args.b c.args.left.now c.args.right.now (contains same_ranks c.args.seen.now)

pub loop-r-preserved : goal.loop-r-preserved
loop-r-preserved c =
    gains_at c.args.b c.args.left.now c.args.right.now c.args.all.now c.loop-r.r-index _ (contains same_ranks c.args.seen.now) (contains same_ranks c.loop-r.seen) (contains same_ranks c.add_renamed.new.seen)
    c.loop-r-test.true c.loop-r.invariant c.in_ok-add_renamed.ensures

pub returns : goal.returns
returns c =
    subst (λ (rs : List Relabelling). Gains c.args.b (IsMade c.args.b rs c.args.left.now c.args.right.now) (contains same_ranks c.args.seen.now) (contains same_ranks c.loop-r.seen))
    (take_all c.loop-r.r-index c.args.all.now c.loop-r-test.false) c.loop-r.invariant
