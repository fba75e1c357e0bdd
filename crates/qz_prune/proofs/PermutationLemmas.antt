-- The table of permutations is exact.
use Rattle.std.proofs.Common.{◌≡◌, ℕ, zero, suc, ◌+◌, ◌<◌, ◌≤◌, List, [], ◌∷◌, ◌++◌, map, take, length, ◌⊎◌, inl, inr, refl, sym, ap, subst, ◌∙◌, arith, lit<, append_assoc}
use Rattle.std.specs.Prelude.{◌≢◌, ◌↔◌, Contains, slice_index, slice_get, Some}
use Rattle.std.proofs.lemmas.List.{append-nil, map-append, take_more}
use Rattle.std.proofs.lemmas.List.Concat.{flat_map-append}
use Rattle.std.proofs.lemmas.Option.{slice_get_within, get_or_from_slice_get}
use Rattle.std.specs.List.{flat_map, AllByRecursion}
use Rattle.std.proofs.lemmas.List.Elements.{All-contains, All-from_recursion, Contains-append_cases}
use Rattle.qz_circ.specs.Circuit.{Limits}
use Rattle.qz_circ.specs.Relabellings.{IsPermutation}
use Rattle.qz_circ.proofs.ClassLaws.{contains_first, contains_rest, contains_none}
use Rattle.qz_circ.proofs.CircuitPlaces.{Contains-map, Contains-flat_map}
use Rattle.qz_paths.proofs.LaterMembers.{given_by_map}
use Rattle.qz_prune.specs.declared.relabelling.Relabelling.{Relabelling}
use Rattle.qz_prune.specs.Permutations.{table, count, with_params, with_each, AreRelabellings}

-- ---- three numbers

-- the first two numbers of three are below n where the later ones stay
permutation_of : (n a b c : ℕ) → a < 3 → b < 3 → c < 3 → a ≢ b → a ≢ c → b ≢ c → (n ≤ 0 → a ≡ 0) → (n ≤ 1 → b ≡ 1) → (n ≤ 2 → c ≡ 2) → IsPermutation n (a ∷ b ∷ c ∷ [])
permutation_of n a b c ha hb hc ab ac bc za zb zc = record { three = refl; within = within; different = different; others = others }
  where
    within : (k : ℕ) → k < 3 → slice_index (a ∷ b ∷ c ∷ []) k < 3
    within zero few = ha
    within (suc zero) few = hb
    within (suc (suc zero)) few = hc
    within (suc (suc (suc k))) few = absurd (omega arith)

    different : (i k : ℕ) → i < k → k < 3 → slice_index (a ∷ b ∷ c ∷ []) i ≢ slice_index (a ∷ b ∷ c ∷ []) k
    different zero (suc zero) less few = ab
    different zero (suc (suc zero)) less few = ac
    different (suc zero) (suc (suc zero)) less few = bc
    different i (suc (suc (suc k))) less few = absurd (omega arith)
    different i zero less few = absurd (omega arith)
    different (suc i) (suc zero) less few = absurd (omega arith)
    different (suc (suc i)) (suc (suc zero)) less few = absurd (omega arith)

    others : (k : ℕ) → n ≤ k → k < 3 → slice_index (a ∷ b ∷ c ∷ []) k ≡ k
    others zero from few = za from
    others (suc zero) from few = zb from
    others (suc (suc zero)) from few = zc from
    others (suc (suc (suc k))) from few = absurd (omega arith)

-- three different numbers below 3 are in the table
of_three : (a b c : ℕ) → a < 3 → b < 3 → c < 3 → a ≢ b → a ≢ c → b ≢ c → Contains table (a ∷ b ∷ c ∷ [])
unfolding table
of_three zero zero zero ha hb hc ab ac bc = absurd (ab refl)
of_three zero zero (suc zero) ha hb hc ab ac bc = absurd (ab refl)
of_three zero zero (suc (suc zero)) ha hb hc ab ac bc = absurd (ab refl)
of_three zero (suc zero) zero ha hb hc ab ac bc = absurd (ac refl)
of_three zero (suc zero) (suc zero) ha hb hc ab ac bc = absurd (bc refl)
of_three zero (suc zero) (suc (suc zero)) ha hb hc ab ac bc = (0, lit< tt, refl)
of_three zero (suc (suc zero)) zero ha hb hc ab ac bc = absurd (ac refl)
of_three zero (suc (suc zero)) (suc zero) ha hb hc ab ac bc = (2, lit< tt, refl)
of_three zero (suc (suc zero)) (suc (suc zero)) ha hb hc ab ac bc = absurd (bc refl)
of_three (suc zero) zero zero ha hb hc ab ac bc = absurd (bc refl)
of_three (suc zero) zero (suc zero) ha hb hc ab ac bc = absurd (ac refl)
of_three (suc zero) zero (suc (suc zero)) ha hb hc ab ac bc = (1, lit< tt, refl)
of_three (suc zero) (suc zero) zero ha hb hc ab ac bc = absurd (ab refl)
of_three (suc zero) (suc zero) (suc zero) ha hb hc ab ac bc = absurd (ab refl)
of_three (suc zero) (suc zero) (suc (suc zero)) ha hb hc ab ac bc = absurd (ab refl)
of_three (suc zero) (suc (suc zero)) zero ha hb hc ab ac bc = (3, lit< tt, refl)
of_three (suc zero) (suc (suc zero)) (suc zero) ha hb hc ab ac bc = absurd (ac refl)
of_three (suc zero) (suc (suc zero)) (suc (suc zero)) ha hb hc ab ac bc = absurd (bc refl)
of_three (suc (suc zero)) zero zero ha hb hc ab ac bc = absurd (bc refl)
of_three (suc (suc zero)) zero (suc zero) ha hb hc ab ac bc = (4, lit< tt, refl)
of_three (suc (suc zero)) zero (suc (suc zero)) ha hb hc ab ac bc = absurd (ac refl)
of_three (suc (suc zero)) (suc zero) zero ha hb hc ab ac bc = (5, lit< tt, refl)
of_three (suc (suc zero)) (suc zero) (suc zero) ha hb hc ab ac bc = absurd (bc refl)
of_three (suc (suc zero)) (suc zero) (suc (suc zero)) ha hb hc ab ac bc = absurd (ac refl)
of_three (suc (suc zero)) (suc (suc zero)) zero ha hb hc ab ac bc = absurd (ab refl)
of_three (suc (suc zero)) (suc (suc zero)) (suc zero) ha hb hc ab ac bc = absurd (ab refl)
of_three (suc (suc zero)) (suc (suc zero)) (suc (suc zero)) ha hb hc ab ac bc = absurd (ab refl)
of_three (suc (suc (suc a))) b c ha hb hc ab ac bc = absurd (omega arith)
of_three a (suc (suc (suc b))) c ha hb hc ab ac bc = absurd (omega arith)
of_three a b (suc (suc (suc c))) ha hb hc ab ac bc = absurd (omega arith)

-- ---- the first ones of the table

-- they are permutations
each_one : (n : ℕ) → n ≤ 3 → AllByRecursion (IsPermutation n) (take (count n) table)
unfolding table count
each_one zero few = (permutation_of 0 0 1 2 (lit< tt) (lit< tt) (lit< tt) (λ e. omega (arith, e)) (λ e. omega (arith, e)) (λ e. omega (arith, e)) (λ h. refl) (λ h. refl) (λ h. refl), tt)
each_one (suc zero) few = (permutation_of 1 0 1 2 (lit< tt) (lit< tt) (lit< tt) (λ e. omega (arith, e)) (λ e. omega (arith, e)) (λ e. omega (arith, e)) (λ h. refl) (λ h. refl) (λ h. refl), tt)
each_one (suc (suc zero)) few = (
  permutation_of 2 0 1 2 (lit< tt) (lit< tt) (lit< tt) (λ e. omega (arith, e)) (λ e. omega (arith, e)) (λ e. omega (arith, e)) (λ h. refl) (λ h. refl) (λ h. refl),
  (
    permutation_of 2 1 0 2 (lit< tt) (lit< tt) (lit< tt) (λ e. omega (arith, e)) (λ e. omega (arith, e)) (λ e. omega (arith, e)) (λ h. omega (arith, h)) (λ h. omega (arith, h)) (λ h. refl),
    tt,
  ),
)
each_one (suc (suc (suc zero))) few = (
  permutation_of 3 0 1 2 (lit< tt) (lit< tt) (lit< tt) (λ e. omega (arith, e)) (λ e. omega (arith, e)) (λ e. omega (arith, e)) (λ h. refl) (λ h. refl) (λ h. refl),
  (
    permutation_of 3 1 0 2 (lit< tt) (lit< tt) (lit< tt) (λ e. omega (arith, e)) (λ e. omega (arith, e)) (λ e. omega (arith, e)) (λ h. omega (arith, h)) (λ h. omega (arith, h)) (λ h. refl),
    (
      permutation_of 3 0 2 1 (lit< tt) (lit< tt) (lit< tt) (λ e. omega (arith, e)) (λ e. omega (arith, e)) (λ e. omega (arith, e)) (λ h. refl) (λ h. omega (arith, h)) (λ h. omega (arith, h)),
      (
        permutation_of 3 1 2 0 (lit< tt) (lit< tt) (lit< tt) (λ e. omega (arith, e)) (λ e. omega (arith, e)) (λ e. omega (arith, e)) (λ h. omega (arith, h)) (λ h. omega (arith, h)) (λ h. omega (arith, h)),
        (
          permutation_of 3 2 0 1 (lit< tt) (lit< tt) (lit< tt) (λ e. omega (arith, e)) (λ e. omega (arith, e)) (λ e. omega (arith, e)) (λ h. omega (arith, h)) (λ h. omega (arith, h)) (λ h. omega (arith, h)),
          (
            permutation_of 3 2 1 0 (lit< tt) (lit< tt) (lit< tt) (λ e. omega (arith, e)) (λ e. omega (arith, e)) (λ e. omega (arith, e)) (λ h. omega (arith, h)) (λ h. refl) (λ h. omega (arith, h)),
            tt,
          ),
        ),
      ),
    ),
  ),
)
each_one (suc (suc (suc (suc n)))) few = absurd (omega arith)

-- and all
of_values : (n a b c : ℕ) → n ≤ 3 → IsPermutation n (a ∷ b ∷ c ∷ []) → Contains (take (count n) table) (a ∷ b ∷ c ∷ [])
unfolding table count
of_values zero a b c few h =
    let first : 0 ≡ a = sym (h.others 0 (omega arith) (lit< tt)) in
    let second : 1 ≡ b = sym (h.others 1 (omega arith) (lit< tt)) in
    let third : 2 ≡ c = sym (h.others 2 (omega arith) (lit< tt)) in
    (0, lit< tt, λ i. first i ∷ second i ∷ third i ∷ [])
of_values (suc zero) a b c few h =
    let second : 1 ≡ b = sym (h.others 1 (omega arith) (lit< tt)) in
    let third : 2 ≡ c = sym (h.others 2 (omega arith) (lit< tt)) in
    let below : a < 3 = h.within 0 (lit< tt) in
    let first : 0 ≡ a = omega (arith, below, second, third, h.different 0 1 (lit< tt) (lit< tt), h.different 0 2 (lit< tt) (lit< tt)) in
    (0, lit< tt, λ i. first i ∷ second i ∷ third i ∷ [])
of_values (suc (suc zero)) a b c few h =
    let third : 2 ≡ c = sym (h.others 2 (omega arith) (lit< tt)) in
    by a b (omega (arith, third, h.within 0 (lit< tt), h.different 0 2 (lit< tt) (lit< tt))) (omega (arith, third, h.within 1 (lit< tt), h.different 1 2 (lit< tt) (lit< tt))) (h.different 0 1 (lit< tt) (lit< tt)) third
  where
    by : (x y : ℕ) → x < 2 → y < 2 → x ≢ y → 2 ≡ c → Contains ((0 ∷ 1 ∷ 2 ∷ []) ∷ (1 ∷ 0 ∷ 2 ∷ []) ∷ []) (x ∷ y ∷ c ∷ [])
    by zero zero hx hy xy third = absurd (xy refl)
    by zero (suc zero) hx hy xy third = (0, lit< tt, λ i. 0 ∷ 1 ∷ third i ∷ [])
    by (suc zero) zero hx hy xy third = (1, lit< tt, λ i. 1 ∷ 0 ∷ third i ∷ [])
    by (suc zero) (suc zero) hx hy xy third = absurd (xy refl)
    by (suc (suc x)) y hx hy xy third = absurd (omega arith)
    by x (suc (suc y)) hx hy xy third = absurd (omega arith)
of_values (suc (suc (suc zero))) a b c few h =
    of_three a b c (h.within 0 (lit< tt)) (h.within 1 (lit< tt)) (h.within 2 (lit< tt)) (h.different 0 1 (lit< tt) (lit< tt)) (h.different 0 2 (lit< tt) (lit< tt)) (h.different 1 2 (lit< tt) (lit< tt))
of_values (suc (suc (suc (suc n)))) a b c few h = absurd (omega arith)

of_names : (n : ℕ) (names : List ℕ) → n ≤ 3 → IsPermutation n names → Contains (take (count n) table) names
of_names n [] few h = absurd (omega (arith, h.three))
of_names n (a ∷ []) few h = absurd (omega (arith, h.three))
of_names n (a ∷ b ∷ []) few h = absurd (omega (arith, h.three))
of_names n (a ∷ b ∷ c ∷ []) few h = of_values n a b c few h
of_names n (a ∷ b ∷ c ∷ d ∷ rest) few h = absurd (omega (arith, h.three))

-- so the first ones are exactly the permutations
pub permutations_are : (n : ℕ) (names : List ℕ) → n ≤ 3 → Contains (take (count n) table) names ↔ IsPermutation n names
permutations_are n names few =
    (λ has. All-contains (IsPermutation n) (take (count n) table) names (All-from_recursion (IsPermutation n) (take (count n) table) (each_one n few)) has, of_names n names few)

-- ---- relabellings

-- an element of pieces is one of a piece
record Piece {A B : Type 0} (f : A → List B) (xs : List A) (y : B) : Type 0 where
  from : A
  listed : Contains xs from
  has : Contains (f from) y

piece : {A B : Type 0} (f : A → List B) (xs : List A) (y : B) → Contains (flat_map f xs) y → Piece f xs y
piece f [] y has = absurd (contains_none y has)
piece f (x ∷ xs) y has = elim (Contains-append_cases (f x) (flat_map f xs) y has) [
  | inl here ↦ record { from = x; listed = contains_first x xs; has = here }
  | inr there ↦ let rest = piece f xs y there in record { from = rest.from; listed = contains_rest x xs rest.from rest.listed; has = rest.has }
]

-- each permutation of the qubits with each of the parameters
pub relabellings_are : (b : Limits) → b.q ≤ 3 → b.m ≤ 3 → (all : List Relabelling) → all ≡ flat_map (with_each b.m) (take (count b.q) table) → AreRelabellings b all
relabellings_are b hq hm all is = record { exactly = λ r. (to r, from r) }
  where
    to : (r : Relabelling) → Contains all r → IsPermutation b.q r.qubits × IsPermutation b.m r.params
    to r has =
        let p = piece (with_each b.m) (take (count b.q) table) r (subst (λ rs. Contains rs r) is has) in
        let given = given_by_map (with_params p.from) (take (count b.m) table) r p.has in
        let qubits : p.from ≡ r.qubits = ap (λ (s : Relabelling). s.qubits) given.is in
        let params : given.from ≡ r.params = ap (λ (s : Relabelling). s.params) given.is in
        ((permutations_are b.q r.qubits hq).0 (subst (Contains (take (count b.q) table)) qubits p.listed), (permutations_are b.m r.params hm).0 (subst (Contains (take (count b.m) table)) params given.listed))

    from : (r : Relabelling) → IsPermutation b.q r.qubits × IsPermutation b.m r.params → Contains all r
    from r h =
        let inner = Contains-map (with_params r.qubits) (take (count b.m) table) r.params ((permutations_are b.m r.params hm).1 h.1) in
        subst (λ rs. Contains rs r) (sym is) (Contains-flat_map (with_each b.m) (take (count b.q) table) r.qubits r ((permutations_are b.q r.qubits hq).1 h.0) inner)

-- ---- the first ones, one by one

-- what a function gives of one more
pub each_more : {A : Type 0} (f : List ℕ → A) (old : List A) (n : ℕ) (names : List ℕ) → slice_get table n ≡ Some names → old ++ map f (take n table) ++ f names ∷ [] ≡ old ++ map f (take (n + 1) table)
each_more f old n names is =
    let inside = slice_get_within table n names is in
    let one : take n table ++ names ∷ [] ≡ take (n + 1) table = ap (λ x. take n table ++ x ∷ []) (sym (get_or_from_slice_get table n names [] is)) ∙ sym (take_more table n [] inside) in
    append_assoc old (map f (take n table)) (f names ∷ []) ∙ ap (λ xs. old ++ xs) (sym (map-append f (take n table) (names ∷ [])) ∙ ap (map f) one)

-- and lists of one more
pub lists_more : {A : Type 0} (f : List ℕ → List A) (n : ℕ) (names : List ℕ) → slice_get table n ≡ Some names → flat_map f (take n table) ++ f names ≡ flat_map f (take (n + 1) table)
lists_more f n names is =
    let inside = slice_get_within table n names is in
    let one : take n table ++ names ∷ [] ≡ take (n + 1) table = ap (λ x. take n table ++ x ∷ []) (sym (get_or_from_slice_get table n names [] is)) ∙ sym (take_more table n [] inside) in
    ap (λ xs. flat_map f (take n table) ++ xs) (sym (append-nil (f names))) ∙ sym (flat_map-append f (take n table) (names ∷ [])) ∙ ap (flat_map f) one
