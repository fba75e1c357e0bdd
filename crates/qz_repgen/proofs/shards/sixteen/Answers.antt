use Rattle.std.proofs.Common.{◌≡◌, ◌+◌, ◌++◌, [], ◌∷◌, map, sym, ap, ◌∙◌, arith, rules}
use Rattle.std.specs.List.{range_with_len}
use Rattle.std.proofs.lemmas.List.{map-append}
use Rattle.qz_circ.specs.Circuit.{below}
use Rattle.qz_circ.proofs.CircuitPlaces.{range-append}
use Rattle.qz_repgen.specs.Shards.{empty_shard, empty_shards}
use Rattle.qz_repgen.proofs.shards.sixteen.Goals as goal

pub loop-k-init : goal.loop-k-init
unfolding empty_shards
loop-k-init c = c.new-shards.ensures.items

-- one shard more
pub loop-k-preserved : goal.loop-k-preserved
unfolding empty_shards
loop-k-preserved c =
    let k = c.loop-k.k in
    let shard = empty_shard c.args.b c.args.probe.now in
    let pushed : c.push.new.self.items ≡ c.loop-k.shards.items ++ c.new.result ∷ [] = search rules in
    let one : range_with_len (0 + k) 1 ≡ k ∷ [] = ap (λ n. n ∷ []) (omega arith) in
    let more : below (k + 1) ≡ below k ++ k ∷ [] = range-append 0 k 1 ∙ ap (λ xs. below k ++ xs) one in
    pushed ∙ (λ i. c.loop-k.invariant i ++ c.new.ensures i ∷ []) ∙ sym (ap (map shard) more ∙ map-append shard (below k) (k ∷ []))
