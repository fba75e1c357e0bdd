use Rattle.std.proofs.Common.{◌≡◌, get_or, map, take, sym, subst, ap, ◌∙◌, arith}
use Rattle.qz_circ.specs.ClassLists.{AreRanks, ClassLists}
use Rattle.qz_shard.specs.Shards.{ShardParts}
use Rattle.qz_repgen.specs.Listing.{class_at_place}
use Rattle.qz_repgen.proofs.ListingLemmas.{no_place, place_shard, place_class, place_ranks, lists_more, places_together}
use Rattle.std.proofs.lemmas.List.{take_all}
use Rattle.qz_repgen.proofs.listing.listed.Goals as goal

pub offset_bounds-shards-place : goal.offset_bounds-shards-place
offset_bounds-shards-place c =
    let within = place_shard c.args.b c.args.shards.now c.in_ok-places.places.items c.in_ok-places.ensures c.deref-place-items.result.now c.deref-place-items.ensures.value c.loop-place.place-index c.loop-place-test.true in
    record { fits = omega (arith, within, c.requires.number) }

pub bounds-shards-place : goal.bounds-shards-place
bounds-shards-place c = place_shard c.args.b c.args.shards.now c.in_ok-places.places.items c.in_ok-places.ensures c.deref-place-items.result.now c.deref-place-items.ensures.value c.loop-place.place-index c.loop-place-test.true

pub class-requires : goal.class-requires
class-requires c classes are =
    let s = c.index-shards-place.result in
    let within = place_shard c.args.b c.args.shards.now c.in_ok-places.places.items c.in_ok-places.ensures c.deref-place-items.result.now c.deref-place-items.ensures.value c.loop-place.place-index c.loop-place-test.true in
    let same = ap (λ (x : ShardParts). x.bounds) c.index-shards-place.is ∙ c.requires.bounds (get_or c.deref-place-items.result.now c.loop-place.place-index no_place).shard s within in
    place_class c.args.b c.args.shards.now c.in_ok-places.places.items c.in_ok-places.ensures c.deref-place-items.result.now c.deref-place-items.ensures.value c.loop-place.place-index c.loop-place-test.true s c.index-shards-place.is same classes are

pub push-requires : goal.push-requires
push-requires c =
    let s = c.index-shards-place.result in
    let n = (get_or c.deref-place-items.result.now c.loop-place.place-index no_place).shard in
    let within = place_shard c.args.b c.args.shards.now c.in_ok-places.places.items c.in_ok-places.ensures c.deref-place-items.result.now c.deref-place-items.ensures.value c.loop-place.place-index c.loop-place-test.true in
    let same = ap (λ (x : ShardParts). x.bounds) c.index-shards-place.is ∙ c.requires.bounds n s within in
    let ranks : AreRanks c.args.b s.journal = subst (λ (x : ShardParts). AreRanks c.args.b x.journal) (sym c.index-shards-place.is) (c.requires.ranks n s within) in
    subst (λ b. AreRanks b c.class.result.now) (sym c.loop-place.invariant.0)
    (place_ranks c.args.b c.args.shards.now c.in_ok-places.places.items c.in_ok-places.ensures c.deref-place-items.result.now c.deref-place-items.ensures.value c.loop-place.place-index c.loop-place-test.true s c.index-shards-place.is same c.class.result.now c.class.ensures ranks)

-- one class more
pub loop-place-preserved : goal.loop-place-preserved
loop-place-preserved c =
    let s = c.index-shards-place.result in
    let n = (get_or c.deref-place-items.result.now c.loop-place.place-index no_place).shard in
    let within = place_shard c.args.b c.args.shards.now c.in_ok-places.places.items c.in_ok-places.ensures c.deref-place-items.result.now c.deref-place-items.ensures.value c.loop-place.place-index c.loop-place-test.true in
    let same = ap (λ (x : ShardParts). x.bounds) c.index-shards-place.is ∙ c.requires.bounds n s within in (
      ap (λ (x : ClassLists). x.bounds) c.in_ok-push.ensures.ok ∙ c.loop-place.invariant.0,
      λ all are. lists_more c.args.b c.args.shards.now c.in_ok-places.places.items c.in_ok-places.ensures c.deref-place-items.result.now c.deref-place-items.ensures.value c.loop-place.place-index c.loop-place-test.true s c.index-shards-place.is same c.class.result.now c.class.ensures all are c.loop-place.classes.lists c.push.new.self.lists
          (c.loop-place.invariant.1 all are) (ap (λ (x : ClassLists). x.lists) c.in_ok-push.ensures.ok),
    )

pub returns-clause-together : goal.returns-clause-together
returns-clause-together c =
    let h = c.in_ok-places.ensures in
    let whole : take c.loop-place.place-index c.deref-place-items.result.now ≡ c.in_ok-places.places.items = take_all c.loop-place.place-index c.deref-place-items.result.now c.loop-place-test.false ∙ c.deref-place-items.ensures.value in
    (h.all, h.are, places_together c.args.b c.args.shards.now c.in_ok-places.places.items h c.loop-place.classes.lists (c.loop-place.invariant.1 h.all h.are ∙ ap (map (class_at_place h.all)) whole))
