-- A text that is cut at each byte of a kind, where it has none.
use Rattle.std.proofs.Common.{◌≡◌, ◌≢◌, ℕ, ◌+◌, ◌<◌, false, ◌==◌, List, [], ◌∷◌, length, get_or, refl, arith}
use Rattle.std.proofs.lemmas.Bool.Decides.{nat_tests}
use Rattle.std.proofs.lemmas.Grind.{common_steps}
use Rattle.std.specs.List.{slice_split}

-- no byte of the list is c
abbrev Lacks : ℕ → List ℕ → Type 0
Lacks c xs = (i : ℕ) → i < length xs → get_or xs i 0 ≢ c

head_differs : (c x : ℕ) (xs : List ℕ) → Lacks c (x ∷ xs) → (x == c) ≡ false
head_differs c x xs h = let other : x ≢ c = h 0 (grind (arith, common_steps)) in grind (arith, nat_tests)

rest_lacks : (c x : ℕ) (xs : List ℕ) → Lacks c (x ∷ xs) → Lacks c xs
rest_lacks c x xs h i less = let other = h (i + 1) (grind (arith, common_steps)) in grind (arith, common_steps)

-- it is the one part
pub uncut : (c : ℕ) (xs : List ℕ) → Lacks c xs → slice_split (λ b. b == c) xs ≡ xs ∷ []
uncut c [] h = refl
uncut c (x ∷ xs) h = rw (head_differs c x xs h, uncut c xs (rest_lacks c x xs h))
