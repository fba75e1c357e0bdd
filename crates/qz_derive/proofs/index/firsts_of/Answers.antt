use Rattle.std.proofs.Common.{◌≡◌, ◌+◌, ◌<◌, ◌++◌, [], ◌∷◌, nat_eq, take, get_or, ap, sym, subst, ◌∙◌}
use Rattle.std.proofs.lemmas.List.{append-nil, take_more}
use Rattle.std.proofs.lemmas.List.Concat.{flat_map-append}
use Rattle.std.proofs.lemmas.Option.{get_or_from_slice_get}
use Rattle.indexmap.specs.IndexMap.{get}
use Rattle.qz_circ.specs.Pairs.{class_pairs, pairs_of}
use Rattle.qz_derive.specs.Indexes.{IsIndex}
use Rattle.qz_derive.proofs.index.firsts_of.Goals as goal

-- one class more
pub loop-i-preserved : goal.loop-i-preserved
loop-i-preserved c =
    let lists = c.args.k.now.lists in
    let i = c.loop-i.i in
    let class = c.class.result.now in
    let here : get_or lists i [] ≡ class = get_or_from_slice_get lists i class [] c.class.ensures.list in
    let inside = c.loop-i-test.true in
    let is : pairs_of (take i lists) ++ class_pairs class ≡ pairs_of (take (i + 1) lists) =
    ap (λ ps. pairs_of (take i lists) ++ ps) (sym (append-nil (class_pairs class))) ∙ sym (flat_map-append class_pairs (take i lists) (class ∷ [])) ∙
    ap pairs_of (ap (λ x. take i lists ++ x ∷ []) (sym here) ∙ sym (take_more lists i [] (subst (λ n. i < n) c.len-i-end.ensures inside))) in
    subst (λ ps. IsIndex ps (get nat_eq c.add_class.new.firsts)) is (c.in_ok-add_class.ensures (pairs_of (take i lists)) c.loop-i.invariant)
