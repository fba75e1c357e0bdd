-- What holds of each item of a list after one more at its end.
use Rattle.std.proofs.Common.{◌≡◌, ℕ, ◌+◌, ◌<◌, List, [], ◌∷◌, ◌++◌, length, get_or, sym, ap, subst, ◌∙◌, arith}
use Rattle.std.proofs.Math.ListN.{get_or-append}
use Rattle.std.proofs.lemmas.List.{get_or_push}
use borrow.Author.Count.{below_more}

-- what holds of each item and of the new one holds of each item then
pub each_push : {X : Type 0} (P : ℕ → X → Type 0) (xs ys : List X) (x d : X) (i : ℕ) → length xs ≡ i → ys ≡ xs ++ x ∷ [] → P i x → ((k : ℕ) → k < i → P k (get_or xs k d)) → (k : ℕ) → k < i + 1 → P k (get_or ys k d)
each_push P xs ys x d i len is here before =
    below_more (λ k. P k (get_or ys k d)) i
    (λ k less. let same : get_or ys k d ≡ get_or xs k d = ap (λ zs. get_or zs k d) is ∙ get_or-append xs (x ∷ []) d k (omega arith) in subst (P k) (sym same) (before k less))
    (let same : get_or ys i d ≡ x = ap (λ zs. get_or zs i d) is ∙ get_or_push xs x d i len in subst (P i) (sym same) here)
