use Rattle.std.proofs.Common.{◌≡◌, ◌∙◌, [], sym, ap, subst, rules}
use Rattle.std.specs.Vec.Iter.{into_iter_items}
use Rattle.std.proofs.lemmas.List.Sorted.{IsPermutation-map}
use Rattle.qz_circ.specs.Vectors.{lists_of}
use Rattle.qz_search.proofs.Alike.{none_left}
use Rattle.qz_search.proofs.Pairs.{IsThinning, thinning_start, thinning_step, thinning_end}
use Rattle.qz_search.proofs.class.thinned.Goals as goal

pub loop-c-init : goal.loop-c-init
loop-c-init c =
    let members = c.args.members.items in
    let sorted = c.sort_unstable_by.new.self.items in
    let whole : into_iter_items c.into_iter-c-iterator.result ≡ sorted = search rules in
    subst (λ vs. IsThinning (lists_of members) (lists_of c.new-kept.result.items) (lists_of vs)) (sym whole)
    (subst (λ vs. IsThinning (lists_of members) (lists_of vs) (lists_of sorted)) (sym c.new-kept.ensures.items)
    (thinning_start (lists_of members) (lists_of sorted) (IsPermutation-map (λ v. v.items) members sorted c.sort_unstable_by.ensures.permutation) c.requires.fit))

pub loop-c-preserved : goal.loop-c-preserved
loop-c-preserved c =
    thinning_step (lists_of c.args.members.items) (lists_of c.loop-c.kept.items) (lists_of c.keep.new.kept.items) (lists_of (into_iter_items c.loop-c.c-iterator)) (lists_of (into_iter_items c.next.new.self)) c.in-Some.c.items
    (ap lists_of (c.in-Some.ensures.steps.0)) c.in_ok-keep.ensures c.loop-c.invariant

pub returns-clause-alike : goal.returns-clause-alike
returns-clause-alike c =
    let none : into_iter_items c.loop-c.c-iterator ≡ [] = none_left (into_iter_items c.loop-c.c-iterator) (sym c.loop-c.c-iterator.rest.ok.0 ∙ c.in-None.ensures.steps.0) in
    thinning_end (lists_of c.args.members.items) (lists_of c.loop-c.kept.items) (lists_of (into_iter_items c.loop-c.c-iterator)) (ap lists_of none) c.loop-c.invariant
