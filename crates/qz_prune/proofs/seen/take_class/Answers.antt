use Rattle.std.proofs.Common.{◌≡◌, List, ℕ, ◌+◌, ◌++◌, [], ◌∷◌, get_or, map, take, true, false, ap, sym, subst, ◌∙◌, rules}
use Rattle.std.proofs.lemmas.List.{take_all}
use Rattle.indexmap.specs.IndexSet.{contains}
use Rattle.qz_circ.specs.Circuit.{Limits}
use Rattle.qz_circ.specs.ClassLists.{ClassLists, AreRanks}
use Rattle.qz_circ.specs.Pairs.{Pair, class_pairs}
use Rattle.qz_prune.specs.Seen.{same_ranks, IsPair, IsTaken, Progress}
use Rattle.qz_prune.proofs.Steps.{pair_of_ranks, pair_is, pair_ranks, more_pairs, drops, keeps}
use Rattle.qz_prune.proofs.seen.take_class.Goals as goal
use Rattle.qz_prune.proofs.seen.take_class.Goals.{then-branch+in_ok-push, else-branch}

pub take_pair-requires-clause-pair : goal.take_pair-requires-clause-pair
take_pair-requires-clause-pair c =
    let first = c.in-Some.first.now in
    let rest = c.in-Some.rest.now in
    let is : c.args.class.now ≡ first ∷ rest = c.in-Some.ensures.cases.0 in
    let pair = pair_is c.args.left.now.bounds c.args.class.now first rest is c.requires.ranks c.requires.rising c.loop-later.later-index c.loop-later-test.true in
    subst (λ (b : Limits). IsPair b (pair_of_ranks first (get_or rest c.loop-later.later-index 0))) (sym c.bounds-b.ensures) pair

pub push-requires : goal.push-requires
push-requires c =
    let first = c.in-Some.first.now in
    let rest = c.in-Some.rest.now in
    let is : c.args.class.now ≡ first ∷ rest = c.in-Some.ensures.cases.0 in
    let ranks = pair_ranks c.args.left.now.bounds c.args.class.now first rest is c.requires.ranks c.loop-later.later-index c.loop-later-test.true in
    subst (λ (b : Limits). AreRanks b (first ∷ get_or rest c.loop-later.later-index 0 ∷ [])) (sym c.loop-later.invariant.0) ranks

-- one pair more
pub loop-later-preserved : goal.loop-later-preserved
loop-later-preserved c =
    let b = c.args.left.now.bounds in
    let first = c.in-Some.first.now in
    let rest = c.in-Some.rest.now in
    let i = c.loop-later.later-index in
    let pair = pair_of_ranks first (get_or rest i 0) in
    let old = contains same_ranks c.loop-later.seen in
    let new = contains same_ranks c.take_pair.new.seen in
    let taken = subst (λ (d : Limits). IsTaken d pair old new c.in_ok-take_pair.field-0) c.bounds-b.ensures c.in_ok-take_pair.ensures in
    elim c.if-branch.branch [
      | then-branch+in_ok-push w ↦
          let yes = subst (IsTaken b pair old new) w.if-branch.true taken in (
            ap (λ (x : ClassLists). x.bounds) (w.left-is ∙ w.in_ok-push.ensures.ok) ∙ c.loop-later.invariant.0,
            λ done before.
                let longer = ap (λ (x : ClassLists). x.lists) (w.left-is ∙ w.in_ok-push.ensures.ok) in
                let kept = keeps b (done ++ map (pair_of_ranks first) (take i rest)) c.loop-later.left.lists c.if-branch.left.lists pair old new (c.loop-later.invariant.1 done before) yes longer in
                subst (λ (ps : List Pair). Progress b ps c.if-branch.left.lists new) (more_pairs done first rest i c.loop-later-test.true) kept,
          )
      | else-branch w ↦
          let no = subst (IsTaken b pair old new) w.if-branch.false taken in (
            ap (λ (x : ClassLists). x.bounds) w.left-is ∙ c.loop-later.invariant.0,
            λ done before.
                let dropped = drops b (done ++ map (pair_of_ranks first) (take i rest)) c.loop-later.left.lists pair old new (c.loop-later.invariant.1 done before) no in
                let here = subst (λ (ps : List Pair). Progress b ps c.loop-later.left.lists new) (more_pairs done first rest i c.loop-later-test.true) dropped in
                subst (λ (ls : List (List ℕ)). Progress b (done ++ map (pair_of_ranks first) (take (i + 1) rest)) ls new) (sym (ap (λ (x : ClassLists). x.lists) w.left-is)) here,
          )
    ]

pub returns-clause-progress : goal.returns-clause-progress
returns-clause-progress c = λ done before.
    let b = c.args.left.now.bounds in
    let first = c.in-Some.first.now in
    let rest = c.in-Some.rest.now in
    let is : c.args.class.now ≡ first ∷ rest = c.in-Some.ensures.cases.0 in
    let all : map (pair_of_ranks first) (take c.loop-later.later-index rest) ≡ class_pairs c.args.class.now =
    ap (map (pair_of_ranks first)) (take_all c.loop-later.later-index rest c.loop-later-test.false) ∙ ap class_pairs (sym is) in
    subst (λ (ps : List Pair). Progress b (done ++ ps) c.loop-later.left.lists (contains same_ranks c.loop-later.seen)) all (c.loop-later.invariant.1 done before)
