-- What is left of pairs gives all of them, and is determined.
use Rattle.std.proofs.Common.{◌≡◌, ℕ, List, [], ◌∷◌, ◌++◌, map, ◌⊎◌, inl, inr, refl, sym, ap, subst, ◌∙◌, append_assoc}
use Rattle.std.specs.Prelude.{Contains}
use Rattle.std.proofs.lemmas.List.Elements.{Contains-append_left, Contains-append_right}
use Rattle.qz_circ.specs.Circuit.{Circuit, Limits}
use Rattle.qz_circ.specs.Pairs.{Pair, pairs_of}
use Rattle.qz_circ.specs.Pruned.{IsGiven, Prunes, IsPruned, pair_list}
use Rattle.qz_circ.proofs.ClassLaws.{contains_cases, contains_first, contains_rest, contains_none}
use Rattle.qz_circ.specs.Order.{circuit_at}
use Rattle.qz_circ.specs.Relabellings.{IsRelabelled}

module _ (b : Limits) where
  -- a pair that is given by some is given by these and more
  pub given_more : (kept more : List Pair) (pair : Pair) → IsGiven b kept pair → IsGiven b (kept ++ more) pair
  given_more kept more pair h = record { old = h.old; listed = Contains-append_left kept more h.old h.listed; relabelled = h.relabelled }

  -- each pair is given by what was kept before and what is left, where a pair gives itself
  pub covered : (kept pairs left : List Pair) → Prunes b kept pairs left → ((pair : Pair) → Contains pairs pair → IsRelabelled b pair (circuit_at b pair.first) (circuit_at b pair.later)) →
      (pair : Pair) → Contains pairs pair → IsGiven b (kept ++ left) pair
  covered kept [] left h itself pair has = absurd (contains_none pair has)
  covered kept (first ∷ pairs) left (inl dropped) itself pair has = elim (contains_cases first pairs pair has) [
    | inl same ↦ subst (IsGiven b (kept ++ left)) same (given_more kept left first dropped.0)
    | inr later ↦ covered kept pairs left dropped.1 (λ p listed. itself p (contains_rest first pairs p listed)) pair later
  ]
  covered kept (first ∷ pairs) left (inr more) itself pair has =
      let rest = more.1.0 in
      let whole : (kept ++ first ∷ []) ++ rest ≡ kept ++ left = append_assoc kept (first ∷ []) rest ∙ ap (λ ps. kept ++ ps) (sym more.1.1) in
      let here : IsGiven b (kept ++ first ∷ []) first = record {
        old = first;
        listed = Contains-append_right kept (first ∷ []) first (contains_first first []);
        relabelled = itself first (contains_first first pairs);
      } in
      elim (contains_cases first pairs pair has) [
        | inl same ↦ subst (λ ps. IsGiven b ps pair) whole (given_more (kept ++ first ∷ []) rest pair (subst (IsGiven b (kept ++ first ∷ [])) same here))
        | inr later ↦ subst (λ ps. IsGiven b ps pair) whole (covered (kept ++ first ∷ []) pairs rest more.1.2 (λ p listed. itself p (contains_rest first pairs p listed)) pair later)
      ]

  -- what is left is among the pairs
  pub left_listed : (kept pairs left : List Pair) → Prunes b kept pairs left → (pair : Pair) → Contains left pair → Contains pairs pair
  left_listed kept [] left h pair has = subst (λ ps. Contains ps pair) h has
  left_listed kept (first ∷ pairs) left (inl dropped) pair has = contains_rest first pairs pair (left_listed kept pairs left dropped.1 pair has)
  left_listed kept (first ∷ pairs) left (inr more) pair has = elim (contains_cases first more.1.0 pair (subst (λ ps. Contains ps pair) more.1.1 has)) [
    | inl same ↦ subst (Contains (first ∷ pairs)) same (contains_first first pairs)
    | inr later ↦ contains_rest first pairs pair (left_listed (kept ++ first ∷ []) pairs more.1.0 more.1.2 pair later)
  ]

  -- there is one such list
  pub prunes_same : (kept pairs x y : List Pair) → Prunes b kept pairs x → Prunes b kept pairs y → x ≡ y
  prunes_same kept [] x y h k = h ∙ sym k
  prunes_same kept (pair ∷ pairs) x y (inl h) (inl k) = prunes_same kept pairs x y h.1 k.1
  prunes_same kept (pair ∷ pairs) x y (inl h) (inr k) = absurd (k.0 h.0)
  prunes_same kept (pair ∷ pairs) x y (inr h) (inl k) = absurd (h.0 k.0)
  prunes_same kept (pair ∷ pairs) x y (inr h) (inr k) =
      h.1.1 ∙ ap (λ rest. pair ∷ rest) (prunes_same (kept ++ pair ∷ []) pairs h.1.0 k.1.0 h.1.2 k.1.2) ∙ sym k.1.1

-- and one list of lists
pub pruned_same : (b : Limits) (classes x y : List (List ℕ)) → IsPruned b classes x → IsPruned b classes y → x ≡ y
pruned_same b classes x y h k = h.are ∙ ap (map pair_list) (prunes_same b [] (pairs_of classes) h.left k.left h.prunes k.prunes) ∙ sym k.are
