-- How classes of circuits are kept: all members one after the other, and where each class ends.
use Rattle.std.specs.Prelude.{◌≡◌, ℕ, zero, suc, ◌≤◌, List, [], ◌∷◌, slice_range, slice_index_or}

-- the parts of a list that end before these places, the first of them from a start on
abbrev pub parts_from : {A : Type 0} → ℕ → List ℕ → List A → List (List A)
parts_from start [] xs = []
parts_from start (end ∷ ends) xs = slice_range xs start end ∷ parts_from end ends xs

-- the parts that end before these places
abbrev pub parts : {A : Type 0} → List ℕ → List A → List (List A)
parts ends xs = parts_from 0 ends xs

-- the places don't fall from the start on, and the last one is the length
abbrev pub AreEnds : ℕ → List ℕ → ℕ → Type 0
AreEnds start [] len = start ≡ len
AreEnds start (end ∷ ends) len = (start ≤ end) × AreEnds end ends len

-- where the part with this number begins, counted from 0
abbrev pub start_of : ℕ → List ℕ → ℕ → ℕ
start_of start ends zero = start
start_of start ends (suc c) = slice_index_or ends c 0
