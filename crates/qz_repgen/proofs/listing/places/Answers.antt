use Rattle.std.proofs.Common.{[], sym, subst, ap, ◌∙◌, rules}
use Rattle.std.proofs.lemmas.List.Sorted.{IsNonDecreasingBy-from_sort, answers_always}
use Rattle.qz_shard.specs.Shards.{ShardParts}
use Rattle.qz_repgen.specs.declared.listing.Place.{Place}
use Rattle.qz_repgen.specs.Listing.{AddsPlaces, HasPlaces}
use Rattle.qz_repgen.proofs.ListingLemmas.{places_none, places_more, places_all}
use Rattle.qz_repgen.proofs.listing.places.Goals as goal

pub loop-number-init : goal.loop-number-init
loop-number-init c = subst (HasPlaces c.args.b []) (sym c.new-places.ensures.items) (places_none c.args.b c.args.shards.now)

-- one shard more
pub loop-number-preserved : goal.loop-number-preserved
loop-number-preserved c =
    let i = c.loop-number.number in
    let s = c.index-shards-number.result in
    let same = ap (λ (x : ShardParts). x.bounds) c.index-shards-number.is ∙ c.requires i s c.loop-number-test.true in
    places_more c.args.b c.args.shards.now i s c.loop-number-test.true c.index-shards-number.is c.loop-number.places.items c.add_places.new.places.items c.loop-number.invariant
    (subst (λ b. AddsPlaces b i s.journal c.loop-number.places.items c.add_places.new.places.items) same c.in_ok-add_places.ensures)

pub returns : goal.returns
returns c =
    places_all c.args.b c.args.shards.now c.loop-number.number c.loop-number.places.items c.sort_unstable_by_key.new.self.items c.loop-number-test.false c.loop-number.invariant c.sort_unstable_by_key.ensures.permutation
    (IsNonDecreasingBy-from_sort (λ (p : Place). p.first) _ (c.sort_unstable_by_key.ensures.sorted (λ (p : Place). p.first) (answers_always _ _ _ (λ f a r g h. search rules))))
