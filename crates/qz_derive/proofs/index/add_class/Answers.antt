use Rattle.std.proofs.Common.{◌≡◌, ℕ, ◌+◌, ◌++◌, [], ◌∷◌, cond, Some, nat_eq, map, take, get_or, ap, sym, subst, ◌∙◌, append_assoc}
use Rattle.std.proofs.lemmas.List.{map-append, take_more}
use Rattle.indexmap.specs.IndexMap.{get, Updates}
use Rattle.qz_circ.specs.Pairs.{Pair}
use Rattle.qz_derive.specs.Indexes.{IsIndex}
use Rattle.qz_derive.proofs.IndexLemmas.{pair, index_more, when_ok}
use Rattle.qz_derive.proofs.index.add_class.Goals as goal

-- one later member more
pub loop-r-preserved : goal.loop-r-preserved
loop-r-preserved c pairs before =
    let first = c.in-Some.first.now in
    let later = c.in-Some.later.now in
    let i = c.loop-r.r-index in
    let r = get_or later i 0 in
    let updates = when_ok c.insert.result (sym c.is_err.ensures.value ∙ c.if-is_err.false) c.insert.ensures.updates in
    let one = index_more (pairs ++ map (pair first) (take i later)) (get nat_eq c.loop-r.firsts) (get nat_eq c.insert.new.self) first r (c.loop-r.invariant pairs before) updates.0 in
    let is : pairs ++ map (pair first) (take i later) ++ pair first r ∷ [] ≡ pairs ++ map (pair first) (take (i + 1) later) =
    append_assoc pairs (map (pair first) (take i later)) (pair first r ∷ []) ∙
    ap (λ ps. pairs ++ ps) (sym (map-append (pair first) (take i later) (r ∷ [])) ∙ ap (map (pair first)) (sym (take_more later i 0 c.loop-r-test.true))) in
    subst (λ ps. IsIndex ps (get nat_eq c.insert.new.self)) is one
