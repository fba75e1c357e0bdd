-- Values that move between a vector and slots.
use Rattle.std.proofs.Common.{◌≡◌, ℕ, Bool, false, set, zero, suc, ◌+◌, ◌<◌, List, [], ◌∷◌, ◌++◌, map, take, drop, length, get_or, slice_get, slice_index, replicate, Option, Some, sym, refl, ap, ◌∙◌, append_assoc, arith}
use Rattle.std.proofs.lemmas.List.{map-append, take_more}
use mathlib.Core.Option.{some, some-injective, some-ne-none}
use lib.ListN.{get_elem?}
use Rattle.qz_seats.proofs.Passes.{some_same}

pub at_within : {A : Type 0} (xs : List A) (i : ℕ) (x : A) → get_elem? xs i ≡ some x → (i < length xs) × (get_or xs i x ≡ x)
at_within [] i x at = absurd (some-ne-none x (sym at))
at_within (z ∷ zs) zero x at = (omega arith, some-injective z x at)
at_within (z ∷ zs) (suc i) x at = (let h = at_within zs i x at in (omega (arith, h.0), h.1))

pub at_get_or : {A : Type 0} (xs : List A) (i : ℕ) (d : A) → i < length xs → get_elem? xs i ≡ some (get_or xs i d)
at_get_or [] i d inside = absurd (omega arith)
at_get_or (z ∷ zs) zero d inside = refl
at_get_or (z ∷ zs) (suc i) d inside = at_get_or zs i d (omega arith)

module _ {A : Type 0} where
  -- the first element goes to the end of the other list
  pub first_moved : (xs : List A) (ys : List (Option A)) (x : A) → 0 < length xs → x ≡ get_or xs 0 x → (ys ++ Some x ∷ []) ++ map Some (take 0 xs ++ drop 1 xs) ≡ ys ++ map Some xs
  first_moved [] ys x more is = absurd (omega arith)
  first_moved (z ∷ zs) ys x more is = append_assoc ys (Some x ∷ []) (map Some zs) ∙ ap (λ y. ys ++ Some y ∷ map Some zs) is

  -- one slot more was emptied
  pub one_taken : (slots : List (Option A)) (values : List A) (i : ℕ) (x : A) → map Some values ≡ take i slots → get_elem? slots i ≡ some (Some x) → map Some (values ++ x ∷ []) ≡ take (i + 1) slots
  one_taken slots values i x front at =
      let here = at_within slots i (Some x) at in
      map-append Some values (x ∷ [])
      ∙ (ap (λ ys. ys ++ Some x ∷ []) front
      ∙ sym (take_more slots i (Some x) here.0 ∙ ap (λ y. take i slots ++ y ∷ []) here.1))

  -- a value and its slot
  pub slot_of : (values : List A) (i : ℕ) (x : A) → slice_get values i ≡ Some x → get_elem? (map Some values) i ≡ some (Some x)
  slot_of [] i x at = absurd (cc)
  slot_of (z ∷ zs) zero x at = ap (λ (y : A). some (Some y)) (some_same z x at)
  slot_of (z ∷ zs) (suc i) x at = slot_of zs i x at

  pub value_of : (values : List A) (i : ℕ) (x : A) → get_elem? (map Some values) i ≡ some (Some x) → slice_get values i ≡ Some x
  value_of [] i x at = absurd (some-ne-none (Some x) (sym at))
  value_of (z ∷ zs) zero x at = some-injective (Some z) (Some x) at
  value_of (z ∷ zs) (suc i) x at = value_of zs i x at

pub zeros_at : (n k : ℕ) → slice_index (replicate n 0) k ≡ 0
zeros_at zero k = refl
zeros_at (suc n) zero = refl
zeros_at (suc n) (suc k) = zeros_at n k

-- a flag that was taken off
pub cleared : (flags : List Bool) (i : ℕ) → get_or (set flags i false) i false ≡ false
cleared [] i = refl
cleared (b ∷ flags) zero = refl
cleared (b ∷ flags) (suc i) = cleared flags i
