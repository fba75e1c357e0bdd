-- Two lists beside each other, element by element.
use Rattle.std.proofs.Common.{◌≡◌, ℕ, zero, suc, ◌<◌, Bool, cond, List, [], ◌∷◌, ◌++◌, length, get_or, count_by, ◌⊎◌, inl, inr, refl, subst, ap, arith}
use Rattle.std.specs.Prelude.{Contains}
use Rattle.std.specs.List.{AllZip}
use Rattle.std.proofs.lemmas.List.Sums.{sum_by-cons}
use Rattle.std.proofs.lemmas.Bool.{cases_eq}
use Rattle.qz_circ.proofs.ClassLaws.{contains_cases, contains_first, contains_rest}

module _ {A B : Type 0} (P : A → B → Type 0) where
  -- they are equally long
  pub zip_length : (xs : List A) (ys : List B) → AllZip P xs ys → length xs ≡ length ys
  zip_length [] [] each = omega arith
  zip_length [] (y ∷ ys) each = absurd each
  zip_length (x ∷ xs) [] each = absurd each
  zip_length (x ∷ xs) (y ∷ ys) each = omega (arith, zip_length xs ys each.1)

  -- what holds at a place
  pub zip_at : (xs : List A) (ys : List B) (k : ℕ) (d : A) (e : B) → AllZip P xs ys → k < length xs → P (get_or xs k d) (get_or ys k e)
  zip_at [] ys k d e each within = absurd (omega arith)
  zip_at (x ∷ xs) [] k d e each within = absurd each
  zip_at (x ∷ xs) (y ∷ ys) zero d e each within = each.0
  zip_at (x ∷ xs) (y ∷ ys) (suc k) d e each within = zip_at xs ys k d e each.1 (omega arith)

  -- from what holds at each place
  pub zip_by : (xs : List A) (ys : List B) (d : A) (e : B) → length xs ≡ length ys → ((k : ℕ) → k < length xs → P (get_or xs k d) (get_or ys k e)) → AllZip P xs ys
  zip_by [] [] d e same each = tt
  zip_by [] (y ∷ ys) d e same each = absurd (omega arith)
  zip_by (x ∷ xs) [] d e same each = absurd (omega arith)
  zip_by (x ∷ xs) (y ∷ ys) d e same each = (each 0 (omega arith), zip_by xs ys d e (omega arith) (λ k within. each (suc k) (omega arith)))

  -- with one more element at the end of both
  pub zip_push : (xs : List A) (ys : List B) (x : A) (y : B) → AllZip P xs ys → P x y → AllZip P (xs ++ x ∷ []) (ys ++ y ∷ [])
  zip_push [] [] x y each last = (last, tt)
  zip_push [] (z ∷ ys) x y each last = absurd each
  zip_push (z ∷ xs) [] x y each last = absurd each
  zip_push (z ∷ xs) (w ∷ ys) x y each last = (each.0, zip_push xs ys x y each.1 last)

  -- where at most one element may stand beside each, at most one list may
  pub zip_same : ((x : A) (y z : B) → P x y → P x z → y ≡ z) → (xs : List A) (ys zs : List B) → AllZip P xs ys → AllZip P xs zs → ys ≡ zs
  zip_same one [] [] [] hy hz = refl
  zip_same one [] [] (z ∷ zs) hy hz = absurd hz
  zip_same one [] (y ∷ ys) zs hy hz = absurd hy
  zip_same one (x ∷ xs) [] zs hy hz = absurd hy
  zip_same one (x ∷ xs) (y ∷ ys) [] hy hz = absurd hz
  zip_same one (x ∷ xs) (y ∷ ys) (z ∷ zs) hy hz =
      let first = one x y z hy.0 hz.0 in
      let rest = zip_same one xs ys zs hy.1 hz.1 in
      λ i. first i ∷ rest i

-- a fact of pairs, weakened
pub zip_weaker : {A B : Type 0} (P Q : A → B → Type 0) (xs : List A) (ys : List B) → ((x : A) (y : B) → Contains xs x → P x y → Q x y) → AllZip P xs ys → AllZip Q xs ys
zip_weaker P Q [] [] h each = tt
zip_weaker P Q [] (y ∷ ys) h each = absurd each
zip_weaker P Q (x ∷ xs) [] h each = absurd each
zip_weaker P Q (x ∷ xs) (y ∷ ys) h each = (h x y (contains_first x xs) each.0, zip_weaker P Q xs ys (λ z w has. h z w (contains_rest x xs z has)) each.1)

-- what a count adds for one element
abbrev one_if : Bool → ℕ
one_if b = cond b 1 0

-- as many elements pass a test as pass another one beside them, where the tests agree
pub zip_count : {A B : Type 0} (p : A → Bool) (q : B → Bool) (xs : List A) (ys : List B) → AllZip (λ x y. p x ≡ q y) xs ys → count_by p xs ≡ count_by q ys
zip_count p q [] [] each = refl
zip_count p q [] (y ∷ ys) each = absurd each
zip_count p q (x ∷ xs) [] each = absurd each
zip_count p q (x ∷ xs) (y ∷ ys) each =
    let here : one_if (p x) ≡ one_if (q y) = ap one_if each.0 in
    omega (arith, sum_by-cons (λ z. one_if (p z)) x xs, sum_by-cons (λ z. one_if (q z)) y ys, here, zip_count p q xs ys each.1)

-- a number is in a list or not
pub contains_or_not : (xs : List ℕ) (r : ℕ) → Contains xs r ⊎ (Contains xs r → ⊥)
contains_or_not [] r = inr (λ has. absurd (omega (arith, has.1)))
contains_or_not (x ∷ xs) r = by (cases_eq x r) (contains_or_not xs r)
  where
    by : (x ≡ r) ⊎ (x ≡ r → ⊥) → Contains xs r ⊎ (Contains xs r → ⊥) → Contains (x ∷ xs) r ⊎ (Contains (x ∷ xs) r → ⊥)
    by (inl same) rest = inl (subst (Contains (x ∷ xs)) same (contains_first x xs))
    by (inr apart) (inl later) = inl (contains_rest x xs r later)
    by (inr apart) (inr none) = inr (λ has. elim (contains_cases x xs r has) [ inl same ↦ apart same | inr later ↦ none later ])
