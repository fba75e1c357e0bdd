-- How often ranks stand in lists, and in some lists together.
use Rattle.std.proofs.Common.{◌≡◌, ◌<◌, ℕ, zero, suc, ◌+◌, Bool, true, false, cond, List, [], ◌∷◌, ◌++◌, length, get_or, ◌==◌, refl, ap, arith}
use Rattle.std.specs.List.{sum_by, list_any}
use Rattle.std.specs.Set.{remove_key}
use Rattle.std.proofs.lemmas.Bool.{eq-eqb, eqb-true}
use Rattle.std.proofs.lemmas.List.{length_push}
use Rattle.std.proofs.lemmas.List.Sums.{sum_by-cons, sum_by_push, sum_by-set, get_or-le-sum_by}
use Rattle.std.proofs.lemmas.Map.Made.{length-remove_key}
use Rattle.qz_core.specs.RoundMachine.{times, times_in_all, with_entry, without_entry}

-- one where two ranks are the same
abbrev pub same : ℕ → ℕ → ℕ
same s r = cond (s == r) 1 0

pub times_push : (r s : ℕ) (xs : List ℕ) → times r (xs ++ s ∷ []) ≡ times r xs + same s r
times_push r s xs = sum_by_push (λ x. cond (x == r) 1 0) xs s

times-cons : (r x : ℕ) (xs : List ℕ) → times r (x ∷ xs) ≡ same x r + times r xs
times-cons r x xs = sum_by-cons (λ y. cond (y == r) 1 0) x xs

-- the first such rank is taken out
times-remove : (r s : ℕ) (xs : List ℕ) → list_any (λ x. x == s) xs ≡ true → times r (remove_key (λ x. x == s) xs) + same s r ≡ times r xs
times-remove r s [] h = cc
times-remove r s (x ∷ xs) h = by (x == s) refl (times-remove r s xs)
  where
    by : (b : Bool) → (x == s) ≡ b → (list_any (λ y. y == s) xs ≡ true → times r (remove_key (λ y. y == s) xs) + same s r ≡ times r xs) → times r (remove_key (λ y. y == s) (x ∷ xs)) + same s r ≡ times r (x ∷ xs)
    by true e rest =
        let one : same x r ≡ same s r = ap (λ y. same y r) (eqb-true x s e) in
        rw e (omega (arith, times-cons r x xs, one))
    by false e rest =
        let there = rest (rw e at h) in
        rw e (omega (arith, times-cons r x (remove_key (λ y. y == s) xs), times-cons r x xs, there))

-- a rank that stands at a place is there
pub times_at : (r i : ℕ) (xs : List ℕ) → i < length xs → get_or xs i 0 ≡ r → 0 < times r xs
times_at r i xs h e =
    let more = get_or-le-sum_by (λ x. cond (x == r) 1 0) xs i 0 h in
    let one : same (get_or xs i 0) r ≡ 1 = ap (λ b. cond b 1 0) (eq-eqb (get_or xs i 0) r e) in
    omega (arith, more, one)

pub all_with : (r s i : ℕ) (lists : List (List ℕ)) → i < length lists → times_in_all r (with_entry lists i s) ≡ times_in_all r lists + same s r
all_with r s i lists h =
    omega (arith, sum_by-set (times r) lists i (get_or lists i [] ++ s ∷ []) [] h, times_push r s (get_or lists i []))

pub all_without : (r s i : ℕ) (lists : List (List ℕ)) → i < length lists → list_any (λ x. x == s) (get_or lists i []) ≡ true → times_in_all r (without_entry lists i s) + same s r ≡ times_in_all r lists
all_without r s i lists h there =
    omega (arith, sum_by-set (times r) lists i (remove_key (λ x. x == s) (get_or lists i [])) [] h, times-remove r s (get_or lists i []) there)

pub lengths_with : (s i : ℕ) (lists : List (List ℕ)) → i < length lists → sum_by length (with_entry lists i s) ≡ sum_by length lists + 1
lengths_with s i lists h =
    omega (arith, sum_by-set length lists i (get_or lists i [] ++ s ∷ []) [] h, length_push (get_or lists i []) s)

pub lengths_without : (s i : ℕ) (lists : List (List ℕ)) → i < length lists → list_any (λ x. x == s) (get_or lists i []) ≡ true → sum_by length (without_entry lists i s) + 1 ≡ sum_by length lists
lengths_without s i lists h there =
    omega (arith, sum_by-set length lists i (remove_key (λ x. x == s) (get_or lists i [])) [] h, length-remove_key (λ x. x == s) (get_or lists i []) there)

-- what is one in all is one in one of them
pub one_holds : {X : Type 0} (f : X → ℕ) (xs : List X) (d : X) → sum_by f xs ≡ 1 → (i : ℕ) × (i < length xs) × (f (get_or xs i d) ≡ 1)
one_holds f [] d h = absurd (omega arith)
one_holds {X} f (x ∷ xs) d h = by (f x) refl (one_holds f xs d)
  where
    by : (n : ℕ) → f x ≡ n → (sum_by f xs ≡ 1 → (i : ℕ) × (i < length xs) × (f (get_or xs i d) ≡ 1)) → (i : ℕ) × (i < length (x ∷ xs)) × (f (get_or (x ∷ xs) i d) ≡ 1)
    by zero e rest =
        let at = rest (omega (arith, e, h, sum_by-cons f x xs)) in
        (suc at.0, omega (arith, at.1), at.2)
    by (suc n) e rest = (0, omega arith, omega (arith, e, h, sum_by-cons f x xs))
