-- Elements that go from the front of one list to the end of another, each by a function.
use Rattle.std.proofs.Common.{◌≡◌, ◌<◌, List, [], ◌∷◌, ◌++◌, map, length, get_or, ap, ◌∙◌, append_assoc, arith}
use Rattle.std.specs.List.{remove}
use Rattle.std.proofs.lemmas.List.{map-append}

module _ {A B : Type 0} (f : A → B) where
  -- what the function gives goes over
  pub moved : (done : List B) (rest : List A) (x : A) → 0 < length rest → x ≡ get_or rest 0 x → (done ++ f x ∷ []) ++ map f (remove rest 0) ≡ done ++ map f rest
  moved done [] x more is = absurd (omega arith)
  moved done (z ∷ zs) x more is = append_assoc done (f x ∷ []) (map f zs) ∙ ap (λ y. done ++ f y ∷ map f zs) is

  -- what the function gives was there
  pub moved_from : (done : List A) (rest : List B) (x : A) → 0 < length rest → f x ≡ get_or rest 0 (f x) → map f (done ++ x ∷ []) ++ remove rest 0 ≡ map f done ++ rest
  moved_from done [] x more is = absurd (omega arith)
  moved_from done (z ∷ zs) x more is =
      ap (λ ys. ys ++ zs) (map-append f done (x ∷ [])) ∙ (append_assoc (map f done) (f x ∷ []) zs ∙ ap (λ y. map f done ++ y ∷ zs) is)
