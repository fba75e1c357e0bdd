use Rattle.std.proofs.Common.{◌≡◌, List, ℕ, ◌+◌, ◌++◌, ◌≤◌, [], take, ap, sym, subst, ◌∙◌, rules}
use Rattle.std.specs.List.{list_any}
use Rattle.std.proofs.lemmas.List.{take_all}
use Rattle.indexmap.specs.IndexSet.{contains}
use Rattle.qz_circ.specs.Bounds.{IsLawful}
use Rattle.qz_circ.specs.Circuit.{Limits}
use Rattle.qz_circ.specs.ClassLists.{ClassLists}
use Rattle.qz_circ.specs.Pairs.{Pair, class_pairs, pairs_of}
use Rattle.qz_paths.proofs.LaterMembers.{class_rises}
use Rattle.qz_prune.specs.Seen.{same_ranks, Progress}
use Rattle.qz_prune.proofs.PairChains.{pairs_join, pairs_equivalent}
use Rattle.qz_prune.proofs.Steps.{started, ended, more_classes, listed_at}
use Rattle.qz_prune.proofs.prune.Goals as goal

pub take_class-requires-clause-rising : goal.take_class-requires-clause-rising
take_class-requires-clause-rising c =
    let lawful : IsLawful c.args.k.now.bounds = search rules in
    class_rises c.args.k.now.bounds lawful c.args.k.now.lists c.requires c.class.result.now (listed_at c.args.k.now.lists c.loop-i.i c.class.result.now c.class.ensures.list)

pub loop-i-init : goal.loop-i-init
loop-i-init c =
    let b = c.args.k.now.bounds in
    let seen = contains same_ranks c.new-seen.result in
    let none = started b seen (λ q. ap (λ ks. list_any (same_ranks q) ks) c.new-seen.ensures.empty) in (
      ap (λ (x : ClassLists). x.bounds) c.empty-left.ensures ∙ c.bounds-b.ensures,
      subst (λ (ls : List (List ℕ)). Progress b [] ls seen) (sym (ap (λ (x : ClassLists). x.lists) c.empty-left.ensures)) none,
    )

-- one class more
pub loop-i-preserved : goal.loop-i-preserved
loop-i-preserved c =
    let b = c.args.k.now.bounds in
    let lists = c.args.k.now.lists in
    let i = c.loop-i.i in
    let new = contains same_ranks c.take_class.new.seen in
    let old = contains same_ranks c.loop-i.seen in
    let step = subst (λ (d : Limits). (done : List Pair) → Progress d done c.loop-i.left.lists old → Progress d (done ++ class_pairs c.class.result.now) c.take_class.new.left.lists new) c.loop-i.invariant.0 c.in_ok-take_class.ensures.progress in (
      c.in_ok-take_class.ensures.bounds ∙ c.loop-i.invariant.0,
      subst (λ (ps : List Pair). Progress b ps c.take_class.new.left.lists new) (more_classes lists i c.class.result.now c.class.ensures.list) (step (pairs_of (take i lists)) c.loop-i.invariant.1),
    )

pub returns-clause-pruned : goal.returns-clause-pruned
returns-clause-pruned c =
    let b = c.args.k.now.bounds in
    let lists = c.args.k.now.lists in
    let seen = contains same_ranks c.loop-i.seen in
    let all : take c.loop-i.i lists ≡ lists = take_all c.loop-i.i lists (subst (λ n. n ≤ c.loop-i.i) c.len-i-end.ensures c.loop-i-test.false) in
    ended b lists c.loop-i.left.lists seen (subst (λ (ls : List (List ℕ)). Progress b (pairs_of ls) c.loop-i.left.lists seen) all c.loop-i.invariant.1)

pub returns-clause-equivalent : goal.returns-clause-equivalent
returns-clause-equivalent c =
    let lawful : IsLawful c.args.k.now.bounds = search rules in
    pairs_equivalent c.args.k.now.bounds lawful c.args.k.now.lists c.requires c.loop-i.left.lists (returns-clause-pruned c)

pub returns-clause-join : goal.returns-clause-join
returns-clause-join c =
    let lawful : IsLawful c.args.k.now.bounds = search rules in
    pairs_join c.args.k.now.bounds lawful c.args.k.now.lists c.requires c.loop-i.left.lists (returns-clause-pruned c)
