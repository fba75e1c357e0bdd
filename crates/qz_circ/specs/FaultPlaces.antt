-- Where a file stops being a lawful text: the place up to which some lawful text begins as it does.
-- A language says which values have which texts.
use Rattle.std.specs.Prelude.{◌≡◌, ℕ, ◌≤◌, List, ◌++◌, length, take}

-- some text of the language begins with this
abbrev pub Begins : {X : Type 0} → (X → List ℕ → Type 0) → List ℕ → Type 0
Begins {X} Language front = (x : X) × (rest : List ℕ) × Language x (front ++ rest)

-- of all fronts of the file with which some text begins, the longest has this length
pub record IsLongest {X : Type 0} (Language : X → List ℕ → Type 0) (file : List ℕ) (place : ℕ) : Type 0 where
  pub fits : place ≤ length file
  pub begins : Begins Language (take place file)
  pub longest : (n : ℕ) → n ≤ length file → Begins Language (take n file) → n ≤ place

-- the file is no text of the language, and its fault is at this place
abbrev pub IsFaultPlace : {X : Type 0} → (X → List ℕ → Type 0) → List ℕ → ℕ → Type 0
IsFaultPlace {X} Language file place = IsLongest Language file place × ((x : X) → Language x file → ⊥)

-- the file begins with no text of the language, and its fault is at this place
abbrev pub IsFaultPlaceWithin : {X : Type 0} → (X → List ℕ → Type 0) → List ℕ → ℕ → Type 0
IsFaultPlaceWithin {X} Language file place = IsLongest Language file place × ((x : X) (text rest : List ℕ) → Language x text → file ≡ text ++ rest → ⊥)
