-- A list of three is the list of its three places.
use Rattle.std.proofs.Common.{◌≡◌, List, [], ◌∷◌, length, get_or, ℤ, pos, refl}

-- a list of three is the list of its three places
pub three_places : (xs : List ℤ) → length xs ≡ 3 → get_or xs 0 (pos 0) ∷ (get_or xs 1 (pos 0) ∷ (get_or xs 2 (pos 0) ∷ [])) ≡ xs
three_places [] h = cc
three_places (a ∷ []) h = cc
three_places (a ∷ (b ∷ [])) h = cc
three_places (a ∷ (b ∷ (c ∷ []))) h = refl
three_places (a ∷ (b ∷ (c ∷ (d ∷ xs)))) h = cc
