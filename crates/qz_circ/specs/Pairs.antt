-- The pairs of a class list: the first member of a class with a later one.
use Rattle.std.specs.Prelude.{ℕ, List, [], ◌∷◌, map}
use Rattle.std.specs.List.{flat_map}

-- the ranks of the first member of a class and of a later one
pub record Pair : Type 0 where
  pub first : ℕ
  pub later : ℕ

-- the first member of a class with each later one, in order
abbrev pub class_pairs : List ℕ → List Pair
class_pairs [] = []
class_pairs (first ∷ later) = map (λ r. record { first = first; later = r }) later

-- the pairs of all classes, class by class
abbrev pub pairs_of : List (List ℕ) → List Pair
pairs_of classes = flat_map class_pairs classes
