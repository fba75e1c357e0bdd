-- Elements at places of lists.
use Rattle.std.proofs.Common.{◌≡◌, ℕ, zero, suc, ◌<◌, List, [], ◌∷◌, map, length, slice_get, slice_index_or, Some, refl, subst, arith}
use Rattle.std.specs.Prelude.{Contains}
use Rattle.std.specs.List.{All}
use Rattle.std.proofs.lemmas.Option.{get_or_from_slice_get, none-some, slice_get_within}
use Rattle.qz_circ.proofs.ClassLaws.{contains_none}

-- what holds of all holds of the one at a place
pub all_at : {A : Type 0} (P : A → Type 0) (xs : List A) (k : ℕ) (x : A) → All P xs → slice_get xs k ≡ Some x → P x
all_at P xs k x all at = subst P (get_or_from_slice_get xs k x x at) (all k x (slice_get_within xs k x at))

-- below the length there is one
pub some_at : {A : Type 0} (xs : List A) (k : ℕ) → k < length xs → (x : A) × (slice_get xs k ≡ Some x)
some_at [] k inside = absurd (omega arith)
some_at (z ∷ zs) zero inside = (z, refl)
some_at (z ∷ zs) (suc k) inside = some_at zs k (omega arith)

-- what a function gives at a place, it gives of the element there
pub mapped_at : {A B : Type 0} (f : A → B) (xs : List A) (k : ℕ) (y : B) → slice_get (map f xs) k ≡ Some y → (x : A) × (slice_get xs k ≡ Some x) × (f x ≡ y)
mapped_at f [] k y at = absurd (none-some y at)
mapped_at f (z ∷ zs) zero y at = (z, refl, cc)
mapped_at f (z ∷ zs) (suc k) y at = mapped_at f zs k y at

-- an entry of the list at a place, or of the empty one past the end, is one of a list that is there
pub entry_at : (lists : List (List ℕ)) (k r : ℕ) → Contains (slice_index_or lists k []) r → (list : List ℕ) × (slice_get lists k ≡ Some list) × Contains list r
entry_at [] k r has = absurd (contains_none r has)
entry_at (z ∷ zs) zero r has = (z, refl, has)
entry_at (z ∷ zs) (suc k) r has = entry_at zs k r has
