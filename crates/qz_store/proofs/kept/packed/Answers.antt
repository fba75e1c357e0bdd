use Rattle.std.proofs.Common.{◌≡◌, ◌<◌, ◌++◌, ◌∷◌, [], map, length, get_or, sym, ap, subst, ◌∙◌, All, arith}
use Rattle.std.proofs.lemmas.List.Elements.{All-push}
use Rattle.qz_shard.specs.Shards.{IsShard}
use Rattle.qz_store.specs.declared.kept.Kept.{Kept}
use Rattle.qz_store.proofs.Moved.{moved_from}
use Rattle.qz_store.proofs.kept.packed.Goals as goal

pub loop-packed-preserved : goal.loop-packed-preserved
loop-packed-preserved c =
    let done = c.loop-packed.packed.items in
    let rest = c.loop-packed.shards.items in
    let kept = c.kept_of.result in
    let items = c.push_reserved.ensures.items in
    let some : 0 < length rest = omega (arith, c.loop-packed.shards.ok, c.remove.ensures.len) in
    let is : kept.shard ≡ get_or rest 0 kept.shard = subst (λ x. x ≡ get_or rest 0 x) (sym c.kept_of.ensures.shard_is) c.remove.ensures.value in
    record {
      moved =
          ap (λ ys. map (λ (x : Kept). x.shard) ys ++ c.remove.new.self.items) items
          ∙ (ap (λ zs. map (λ (x : Kept). x.shard) (done ++ kept ∷ []) ++ zs) c.remove.ensures.items
          ∙ (moved_from (λ (x : Kept). x.shard) done rest kept some is ∙ c.loop-packed.invariant.moved));
      names = subst (All (λ (x : Kept). x.names.value.items ≡ c.args.list.now.items)) (sym items)
          (All-push (λ (x : Kept). x.names.value.items ≡ c.args.list.now.items) done kept c.loop-packed.invariant.names c.kept_of.ensures.names);
      are_shards = subst (All (λ (x : Kept). IsShard x.shard)) (sym items)
          (All-push (λ (x : Kept). IsShard x.shard) done kept c.loop-packed.invariant.are_shards (subst IsShard (sym c.kept_of.ensures.shard_is) c.kept_of.ensures.is_shard));
      room = omega (arith, c.loop-packed.invariant.room, c.push_reserved.ensures.len, c.push_reserved.ensures.capacity, c.remove.ensures.len);
    }
