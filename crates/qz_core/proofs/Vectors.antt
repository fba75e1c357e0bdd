-- Vectors of ranks, and what their lists are.
use Rattle.std.proofs.Common.{◌≡◌, ◌<◌, ◌≤◌, ℕ, zero, suc, ◌⊎◌, ◌↔◌, inl, inr, Bool, true, false, cond, List, [], ◌∷◌, length, get_or, set, ◌==◌, None, Some, Vec, vec_len, refl, sym, ap, ◌∙◌, arith}
use Rattle.std.specs.List.{list_any, list_all, remove, position, position_or_len}
use Rattle.std.specs.List.Sorted.{IsStrictlyIncreasing}
use Rattle.std.specs.Set.{remove_key}
use Rattle.std.proofs.lemmas.Bool.{cases_lt, cases_eq, lt-ltb, eq-eqb, ne_eqb, eqb-true, and_parts, and_from, true≢false}
use Rattle.std.proofs.lemmas.List.{map-set, get_or-map, get_or_past, nil_from_length}
use Rattle.std.proofs.lemmas.List.Kept.{AllPairs-from_increasing}
use Rattle.std.proofs.lemmas.List.Sums.{position_or_len_is, fails_before_first}
use Rattle.std.proofs.lemmas.List.Folds.{list_any_none, list_any_at}
use Rattle.std.proofs.lemmas.List.Quantifiers.{position-Some}
use Rattle.qz_circ.specs.Vectors.{lists_of}
use Rattle.qz_core.specs.RoundMachine.{home_among, IsRoundOf}

module _ {A : Type 0} where
  -- one vector is replaced by one whose list is known
  pub lists_after : (vs : List (Vec ℕ A)) (i : ℕ) (v d : Vec ℕ A) (f : List ℕ → List ℕ) → i < length vs → v.items ≡ f (get_or vs i d).items → lists_of (set vs i v) ≡ set (lists_of vs) i (f (get_or (lists_of vs) i []))
  lists_after vs i v d f within e =
      map-set (λ w. w.items) vs i v ∙ ap (set (lists_of vs) i) (e ∙ ap f (sym (get_or-map (λ w. w.items) vs i d [] within)))

  -- there is no rank in any list
  pub all_empty : (vs : List (Vec ℕ A)) → (list_all (λ v. vec_len v == 0) vs ≡ true) ↔ ((i : ℕ) → get_or (lists_of vs) i [] ≡ [])
  all_empty vs = (forth vs, back vs)
    where
      forth : (vs : List (Vec ℕ A)) → list_all (λ v. vec_len v == 0) vs ≡ true → (i : ℕ) → get_or (lists_of vs) i [] ≡ []
      forth [] h i = refl
      forth (v ∷ vs) h zero = let first = (and_parts (vec_len v == 0) (list_all (λ w. vec_len w == 0) vs) h).0 in nil_from_length v.items (omega (arith, v.ok.0, eqb-true (vec_len v) 0 first))
      forth (v ∷ vs) h (suc i) = forth vs (and_parts (vec_len v == 0) (list_all (λ w. vec_len w == 0) vs) h).1 i

      back : (vs : List (Vec ℕ A)) → ((i : ℕ) → get_or (lists_of vs) i [] ≡ []) → list_all (λ v. vec_len v == 0) vs ≡ true
      back [] h = refl
      back (v ∷ vs) h = and_from (vec_len v == 0) (list_all (λ w. vec_len w == 0) vs) (eq-eqb (vec_len v) 0 (omega (arith, v.ok.0, ap length (h 0)))) (back vs (λ i. h (suc i)))

module _ (p : ℕ → Bool) where
  -- taking out the first one that passes takes out the one at its place
  removed : (xs : List ℕ) (i : ℕ) → i < length xs → p (get_or xs i 0) ≡ true → ((k : ℕ) → k < i → p (get_or xs k 0) ≡ false) → remove_key p xs ≡ remove xs i
  removed [] i h e before = absurd (omega arith)
  removed (x ∷ xs) zero h e before = ap (λ b. cond b xs (x ∷ remove_key p xs)) e
  removed (x ∷ xs) (suc i) h e before =
      ap (λ b. cond b xs (x ∷ remove_key p xs)) (before 0 (omega arith)) ∙ ap (λ ys. x ∷ ys) (removed xs i (omega arith) e (λ k l. before (suc k) (omega arith)))

  -- where none passes, nothing is taken out
  kept : (xs : List ℕ) → list_any p xs ≡ false → remove_key p xs ≡ xs
  kept [] h = refl
  kept (x ∷ xs) h = by (p x) refl (kept xs)
    where
      by : (b : Bool) → p x ≡ b → (list_any p xs ≡ false → remove_key p xs ≡ xs) → remove_key p (x ∷ xs) ≡ x ∷ xs
      by true e rest = absurd (true≢false (rw e at h))
      by false e rest = ap (λ b. cond b xs (x ∷ remove_key p xs)) e ∙ ap (λ ys. x ∷ ys) (rest (rw e at h))

  pub place_none : (xs : List ℕ) → position p xs ≡ None → (list_any p xs ≡ false) × (remove_key p xs ≡ xs)
  place_none xs h = by (cases_lt (position_or_len p xs) (length xs))
    where
      by : (position_or_len p xs < length xs) ⊎ (length xs ≤ position_or_len p xs) → (list_any p xs ≡ false) × (remove_key p xs ≡ xs)
      by (inl within) =
          let some : position p xs ≡ Some (position_or_len p xs) = ap (λ b. cond b (Some (position_or_len p xs)) None) (lt-ltb _ _ within) in
          let e : Some (position_or_len p xs) ≡ None = sym some ∙ h in
          cc
      by (inr past) =
          let none = list_any_none p xs (λ k d l. fails_before_first p xs k d (omega arith)) in
          (none, kept xs none)

  pub place_some : (xs : List ℕ) (i : ℕ) → position p xs ≡ Some i → (list_any p xs ≡ true) × (i < length xs) × (remove_key p xs ≡ remove xs i)
  place_some xs i h =
      let at = position-Some p xs i 0 h in
      (list_any_at p xs i 0 at.0 at.1, at.0, removed xs i at.0 at.1 at.2)

-- the home of a rank at a place of rising ranks
pub home_at : (list homes : List ℕ) (r i : ℕ) → IsRoundOf list homes → i < length list → get_or list i 0 ≡ r → get_or homes i 0 ≡ home_among list homes r
unfolding home_among
home_at list homes r i input within e =
    let up = AllPairs-from_increasing list input.rising in
    let place : position_or_len (λ x. x == r) list ≡ i =
    position_or_len_is (λ x. x == r) list i 0 (omega arith) (λ k l. ne_eqb (get_or list k 0) r (λ q. omega (arith, up k i 0 l within, e, q))) (λ l. eq-eqb (get_or list i 0) r e) in
    ap (λ k. get_or homes k 0) (sym place)

-- and 0 where it isn't among them
pub home_past : (list homes : List ℕ) (r : ℕ) → IsRoundOf list homes → ((k : ℕ) → k < length list → get_or list k 0 ≡ r → ⊥) → 0 ≡ home_among list homes r
unfolding home_among
home_past list homes r input none =
    let place : position_or_len (λ x. x == r) list ≡ length list =
    position_or_len_is (λ x. x == r) list (length list) 0 (omega arith) (λ k l. ne_eqb (get_or list k 0) r (none k l)) (λ l. absurd (omega arith)) in
    sym (ap (λ k. get_or homes k 0) place ∙ get_or_past homes (length list) 0 (omega (arith, input.each)))

pub rises_to : (list : List ℕ) → IsStrictlyIncreasing list → (i j : ℕ) → i ≤ j → j < length list → get_or list i 0 ≤ get_or list j 0
rises_to list rising i j le l = by (cases_eq i j)
  where
    by : (i ≡ j) ⊎ (i ≡ j → ⊥) → get_or list i 0 ≤ get_or list j 0
    by (inl e) = omega (arith, ap (λ k. get_or list k 0) e)
    by (inr other) = omega (arith, AllPairs-from_increasing list rising i j 0 (omega arith) l)

-- a number before which all are less, and after which all are more, is none of them
pub between : (list : List ℕ) (r at : ℕ) → ((k : ℕ) → k < at → get_or list k 0 < r) → ((k : ℕ) → at ≤ k → k < length list → r < get_or list k 0) → (k : ℕ) → k < length list → get_or list k 0 ≡ r → ⊥
between list r at below above k l e = by (cases_lt k at)
  where
    by : (k < at) ⊎ (at ≤ k) → ⊥
    by (inl before) = omega (arith, below k before, e)
    by (inr after) = omega (arith, above k after l, e)
