-- Tests of some and of all elements.
use Rattle.std.proofs.Common.{◌≡◌, ℕ, zero, suc, ◌<◌, ◌==◌, ◌&&◌, ◌||◌, Bool, true, false, List, [], ◌∷◌, map, length, get_or, refl, ap, ◌∙◌, arith}
use Rattle.std.specs.List.{list_any, list_all}
use Rattle.std.proofs.lemmas.Bool.{eqb-true, eq-eqb, and_parts as both}

-- cases of a test, with the fact
pub first_or : (a b : Bool) → a ≡ true → (a || b) ≡ true
first_or true b h = refl
first_or false b h = cc

pub second_or : (a b : Bool) → b ≡ true → (a || b) ≡ true
second_or true b h = refl
second_or false b h = h

-- a number in the list passes, so some element does
pub any_listed : (h : ℕ → Bool) (xs : List ℕ) (s : ℕ) → list_any (λ t. t == s) xs ≡ true → h s ≡ true → list_any h xs ≡ true
any_listed h [] s listed pass = cc
any_listed h (x ∷ xs) s listed pass = by (any_listed h xs s) (x == s) refl listed
  where
    by : (list_any (λ t. t == s) xs ≡ true → h s ≡ true → list_any h xs ≡ true) → (b : Bool) → (x == s) ≡ b → (b || list_any (λ t. t == s) xs) ≡ true → (h x || list_any h xs) ≡ true
    by rest true e k = first_or (h x) (list_any h xs) (ap h (eqb-true x s e) ∙ pass)
    by rest false e k = second_or (h x) (list_any h xs) (rest k pass)

-- some element passes, so a number in the list does
pub listed_any : (h : ℕ → Bool) (xs : List ℕ) → list_any h xs ≡ true → (s : ℕ) × (list_any (λ t. t == s) xs ≡ true) × (h s ≡ true)
listed_any h [] any = cc
listed_any h (x ∷ xs) any = by (listed_any h xs) (h x) refl any
  where
    by : (list_any h xs ≡ true → (s : ℕ) × (list_any (λ t. t == s) xs ≡ true) × (h s ≡ true)) → (b : Bool) → h x ≡ b → (b || list_any h xs) ≡ true → (s : ℕ) × (list_any (λ t. t == s) (x ∷ xs) ≡ true) × (h s ≡ true)
    by more true e k = (x, first_or (x == x) (list_any (λ t. t == x) xs) (eq-eqb x x refl), e)
    by more false e k = let rest = more k in (rest.0, second_or (x == rest.0) (list_any (λ t. t == rest.0) xs) rest.1, rest.2)

-- a weaker test passes too
pub any_weaker : {A : Type 0} (g h : A → Bool) (xs : List A) → ((x : A) → g x ≡ true → h x ≡ true) → list_any g xs ≡ true → list_any h xs ≡ true
any_weaker g h [] weaker any = any
any_weaker g h (x ∷ xs) weaker any = by (any_weaker g h xs weaker) (g x) refl any
  where
    by : (list_any g xs ≡ true → list_any h xs ≡ true) → (b : Bool) → g x ≡ b → (b || list_any g xs) ≡ true → (h x || list_any h xs) ≡ true
    by rest true e k = first_or (h x) (list_any h xs) (weaker x e)
    by rest false e k = second_or (h x) (list_any h xs) (rest k)

-- all pass where each does
pub all_pass : {A : Type 0} (h : A → Bool) (d : A) (xs : List A) → ((i : ℕ) → i < length xs → h (get_or xs i d) ≡ true) → list_all h xs ≡ true
all_pass h d [] each = refl
all_pass h d (x ∷ xs) each = rw (each 0 (omega arith)) (all_pass h d xs (λ i l. each (suc i) (omega arith)))

pub each_passes : {A : Type 0} (h : A → Bool) (d : A) (xs : List A) → list_all h xs ≡ true → (i : ℕ) → i < length xs → h (get_or xs i d) ≡ true
each_passes h d [] all i l = absurd (omega arith)
each_passes h d (x ∷ xs) all zero l = (both (h x) (list_all h xs) all).0
each_passes h d (x ∷ xs) all (suc i) l = each_passes h d xs (both (h x) (list_all h xs) all).1 i (omega arith)

pub all-map : {A B : Type 0} (h : B → Bool) (f : A → B) (xs : List A) → list_all h (map f xs) ≡ list_all (λ x. h (f x)) xs
all-map h f [] = refl
all-map h f (x ∷ xs) = ap (λ b. h (f x) && b) (all-map h f xs)
