use Rattle.std.proofs.Common.{◌<◌, ◌++◌, ◌∷◌, [], map, length, sym, ap, subst, ◌∙◌, All, arith}
use Rattle.std.proofs.lemmas.List.Elements.{All-push}
use Rattle.qz_shard.specs.Shards.{IsShard}
use Rattle.qz_store.specs.declared.kept.Kept.{Kept}
use Rattle.qz_store.proofs.Moved.{moved}
use Rattle.qz_store.proofs.kept.unpacked.Goals as goal

pub loop-packed-preserved : goal.loop-packed-preserved
loop-packed-preserved c =
    let done = c.loop-packed.shards.items in
    let rest = c.loop-packed.packed.items in
    let kept = c.remove-shard.result in
    let items = c.push_reserved.ensures.items in
    let some : 0 < length rest = omega (arith, c.loop-packed.packed.ok, c.remove-shard.ensures.len) in
    record {
      moved =
          ap (λ ys. ys ++ map (λ (x : Kept). x.shard) c.remove-shard.new.self.items) items
          ∙ (ap (λ zs. (done ++ kept.shard ∷ []) ++ map (λ (x : Kept). x.shard) zs) c.remove-shard.ensures.items
          ∙ (moved (λ (x : Kept). x.shard) done rest kept some c.remove-shard.ensures.value ∙ c.loop-packed.invariant.moved));
      are_shards = subst (All IsShard) (sym items) (All-push IsShard done kept.shard c.loop-packed.invariant.are_shards c.len.ensures.shard);
      room = omega (arith, c.loop-packed.invariant.room, c.push_reserved.ensures.len, c.push_reserved.ensures.capacity, c.remove-shard.ensures.len);
    }
