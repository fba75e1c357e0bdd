use Rattle.std.proofs.Common.{◌<◌, length, sym, subst, ◌∙◌, arith, slice_index}
use mathlib.Core.Bool.{false≢true}
use Rattle.qz_circ.specs.Order.{circuit_at}
use Rattle.qz_shard.specs.Journals.{AreEquivalentRanks}
use Rattle.qz_shard.specs.Held.{prints_in, IsLastBelow}
use Rattle.qz_shard.proofs.ClassParts.{link_read, some_read, first_read, first_listed}
use Rattle.qz_shard.proofs.Walk.{IsWalk, past, step_counted, walk_on, found_here, link_before}
use Rattle.qz_shard.proofs.search.find_from.Goals as goal

-- each class has members
pub first-requires : goal.first-requires
first-requires g c =
    let at = subst (IsWalk c.args.b c.args.classes.now c.args.last c.args.r c.args.steps.now c.loop-at.steps) c.in-Some.is c.loop-at.invariant in
    let inside : c.in-Some.k < length c.args.classes.now = omega (arith, at.within, c.requires.within) in
    some_read c.args.classes.now c.in-Some.k c.index-classes-k.result inside c.index-classes-k.is c.args.b c.requires.members

-- which are ranks of circuits within the bounds
pub is_equivalent_to-requires-clause-rank : goal.is_equivalent_to-requires-clause-rank
is_equivalent_to-requires-clause-rank g c =
    let at = subst (IsWalk c.args.b c.args.classes.now c.args.last c.args.r c.args.steps.now c.loop-at.steps) c.in-Some.is c.loop-at.invariant in
    let inside : c.in-Some.k < length c.args.classes.now = omega (arith, at.within, c.requires.within) in
    first_listed c.args.classes.now c.in-Some.k c.index-classes-k.result inside c.index-classes-k.is c.args.b c.requires.members c.first.result c.first.ensures

pub returns-in_err-same-clause-counted : goal.returns-in_err-same-clause-counted
returns-in_err-same-clause-counted g c =
    let at = subst (IsWalk c.args.b c.args.classes.now c.args.last c.args.r c.args.steps.now c.loop-at.steps) c.in-Some.is c.loop-at.invariant in
    step_counted c.args.b c.args.classes.now c.args.last c.args.r c.args.steps.now c.requires.within c.loop-at.steps c.is_equivalent_to.new.steps c.in-Some.k at c.in_err-same.ensures.kept c.in_err-same.ensures.counted

pub returns-then-same-clause-counted : goal.returns-then-same-clause-counted
returns-then-same-clause-counted g c =
    let at = subst (IsWalk c.args.b c.args.classes.now c.args.last c.args.r c.args.steps.now c.loop-at.steps) c.in-Some.is c.loop-at.invariant in
    step_counted c.args.b c.args.classes.now c.args.last c.args.r c.args.steps.now c.requires.within c.loop-at.steps c.is_equivalent_to.new.steps c.in-Some.k at c.in_ok-same.ensures.kept c.in_ok-same.ensures.counted

-- the class is the circuit's
pub returns-then-same-clause-found : goal.returns-then-same-clause-found
returns-then-same-clause-found g c =
    let at = subst (IsWalk c.args.b c.args.classes.now c.args.last c.args.r c.args.steps.now c.loop-at.steps) c.in-Some.is c.loop-at.invariant in
    let inside : c.in-Some.k < length c.args.classes.now = omega (arith, at.within, c.requires.within) in
    let first = first_read c.args.classes.now c.in-Some.k c.index-classes-k.result inside c.index-classes-k.is c.args.b c.requires.members c.first.result c.first.ensures in
    let decided = c.in_ok-same.ensures.exact (circuit_at c.args.b c.args.r) c.in_ok-candidate.ensures.stands in
    found_here c.args.b c.args.classes.now c.args.last c.args.r c.args.steps.now c.requires.within c.loop-at.steps c.is_equivalent_to.new.steps c.in-Some.k at c.in_ok-same.ensures.kept c.in_ok-same.ensures.counted
    (subst (AreEquivalentRanks c.args.b c.args.r) (sym first) (decided.0 c.if-same.true))

-- or it isn't, and the next one is further back
pub loop-at-smaller : goal.loop-at-smaller
loop-at-smaller g c =
    let at = subst (IsWalk c.args.b c.args.classes.now c.args.last c.args.r c.args.steps.now c.loop-at.steps) c.in-Some.is c.loop-at.invariant in
    let inside : c.in-Some.k < length c.args.classes.now = omega (arith, at.within, c.requires.within) in
    let link = link_read c.args.classes.now c.in-Some.k c.index-classes-k.result inside c.index-classes-k.is in
    subst (λ o. past c.index-classes-k.result.before < past o) (sym c.in-Some.is)
    (link_before (prints_in c.args.classes.now) (slice_index (prints_in c.args.classes.now) c.in-Some.k) c.in-Some.k c.index-classes-k.result.before
    (subst (IsLastBelow (prints_in c.args.classes.now) (slice_index (prints_in c.args.classes.now) c.in-Some.k) c.in-Some.k) link (c.requires.linked c.in-Some.k inside)))

pub loop-at-preserved : goal.loop-at-preserved
loop-at-preserved g c =
    let at = subst (IsWalk c.args.b c.args.classes.now c.args.last c.args.r c.args.steps.now c.loop-at.steps) c.in-Some.is c.loop-at.invariant in
    let inside : c.in-Some.k < length c.args.classes.now = omega (arith, at.within, c.requires.within) in
    let first = first_read c.args.classes.now c.in-Some.k c.index-classes-k.result inside c.index-classes-k.is c.args.b c.requires.members c.first.result c.first.ensures in
    let link = link_read c.args.classes.now c.in-Some.k c.index-classes-k.result inside c.index-classes-k.is in
    let decided = c.in_ok-same.ensures.exact (circuit_at c.args.b c.args.r) c.in_ok-candidate.ensures.stands in
    walk_on c.args.b c.args.classes.now c.args.last c.args.r c.args.steps.now c.requires.within c.loop-at.steps c.is_equivalent_to.new.steps c.in-Some.k at c.in_ok-same.ensures.kept c.in_ok-same.ensures.counted
    c.index-classes-k.result.before
    (subst (IsLastBelow (prints_in c.args.classes.now) (slice_index (prints_in c.args.classes.now) c.in-Some.k) c.in-Some.k) link (c.requires.linked c.in-Some.k inside))
    (λ same. false≢true (sym c.if-same.false ∙ decided.1 (subst (AreEquivalentRanks c.args.b c.args.r) first same)))
