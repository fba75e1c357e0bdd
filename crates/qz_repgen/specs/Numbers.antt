-- How many numbers a fact holds of.
use Rattle.std.specs.Prelude.{◌≡◌, ℕ, List, length}
use Rattle.qz_circ.specs.Classes.{ListsExactly}

-- the fact holds of so many numbers
pub record IsNumberOf (P : ℕ → Type 0) (count : ℕ) : Type 0 where
  pub numbers : List ℕ
  pub exactly : ListsExactly P numbers
  pub all_of_them : count ≡ length numbers
