use Rattle.std.proofs.Common.{◌+◌, ◌<◌, length, get_or, sym, ap, subst, ◌∙◌}
use Rattle.qz_circ.specs.Classes.{ListsExactly}
use Rattle.qz_circ.specs.Order.{all_circuits}
use Rattle.qz_repgen.proofs.RoundLemmas.{IsTaken, taken_none, taken_all, next_is, next_new, taken_more}
use Rattle.qz_repgen.proofs.ShardLemmas.{ready, held_more}
use Rattle.qz_repgen.specs.Rounds.{IsKeptOf}
use Rattle.qz_shard.specs.Shards.{print_at}
use Rattle.qz_repgen.proofs.rounds.round.Goals as goal

-- no candidate is taken in yet
pub loop-r-init : goal.loop-r-init
loop-r-init g c =
    let left = subst (ListsExactly (IsKeptOf c.args.b (c.args.k + 1))) (sym c.deref-r-items.ensures.value) c.in_ok-left.ensures.kept in
    (c.new-fingerprints.ensures, taken_none c.args.b c.requires.lawful c.args.probe.now.seed c.args.k c.deref-r-items.result.now left c.args.shards.now c.requires.held)

-- the next candidate
pub of-requires : goal.of-requires
of-requires g c =
    let left = subst (ListsExactly (IsKeptOf c.args.b (c.args.k + 1))) (sym c.deref-r-items.ensures.value) c.in_ok-left.ensures.kept in
    let same = ap (λ f. f.bounds) c.loop-r.invariant.0 in
    subst (λ b. get_or c.deref-r-items.result.now c.loop-r.r-index 0 < length (all_circuits b)) (sym same)
    (next_is c.args.b c.requires.lawful c.args.probe.now.seed c.args.k c.deref-r-items.result.now left c.loop-r.r-index c.loop-r-test.true).listed

-- is in no shard
pub take_in-requires-clause-ready : goal.take_in-requires-clause-ready
take_in-requires-clause-ready g c =
    let left = subst (ListsExactly (IsKeptOf c.args.b (c.args.k + 1))) (sym c.deref-r-items.ensures.value) c.in_ok-left.ensures.kept in
    let i = c.loop-r.r-index in
    let r = get_or c.deref-r-items.result.now i 0 in
    ready c.args.b c.args.probe.now.seed (IsTaken c.args.b c.requires.lawful c.args.probe.now.seed c.args.k c.deref-r-items.result.now left i) c.loop-r.shards c.loop-r.invariant.1 r c.in_ok-print.print (c.in_ok-print.ensures.print ∙ ap (λ f. print_at f.bounds f.probe.seed r) c.loop-r.invariant.0)
    (next_new c.args.b c.requires.lawful c.args.probe.now.seed c.args.k c.deref-r-items.result.now left i c.loop-r-test.true) (next_is c.args.b c.requires.lawful c.args.probe.now.seed c.args.k c.deref-r-items.result.now left i c.loop-r-test.true).listed

-- and then it is in one
pub loop-r-preserved : goal.loop-r-preserved
loop-r-preserved g c =
    let left = subst (ListsExactly (IsKeptOf c.args.b (c.args.k + 1))) (sym c.deref-r-items.ensures.value) c.in_ok-left.ensures.kept in
    let i = c.loop-r.r-index in
    let r = get_or c.deref-r-items.result.now i 0 in (
      c.in_ok-print.ensures.same ∙ c.loop-r.invariant.0,
      taken_more c.args.b c.requires.lawful c.args.probe.now.seed c.args.k c.deref-r-items.result.now left i c.loop-r-test.true c.take_in.new.shards
          (held_more c.args.b c.args.probe.now.seed (IsTaken c.args.b c.requires.lawful c.args.probe.now.seed c.args.k c.deref-r-items.result.now left i) c.loop-r.shards c.loop-r.invariant.1 r c.in_ok-print.print (c.in_ok-print.ensures.print ∙ ap (λ f. print_at f.bounds f.probe.seed r) c.loop-r.invariant.0)
          (next_new c.args.b c.requires.lawful c.args.probe.now.seed c.args.k c.deref-r-items.result.now left i c.loop-r-test.true) c.take_in.new.shards c.in_ok-take_in.ensures),
    )

pub returns-clause-held : goal.returns-clause-held
returns-clause-held g c =
    let left = subst (ListsExactly (IsKeptOf c.args.b (c.args.k + 1))) (sym c.deref-r-items.ensures.value) c.in_ok-left.ensures.kept in
    taken_all c.args.b c.requires.lawful c.args.probe.now.seed c.args.k c.deref-r-items.result.now left c.loop-r.r-index c.loop-r.shards c.loop-r-test.false c.loop-r.invariant.1
