-- Lists of circuits that programs become, in whichever order.
use Rattle.std.proofs.Common.{◌≡◌, ℕ, zero, suc, ◌<◌, inl, inr, Result, Ok, Err, OnOk, List, [], ◌∷◌, ◌++◌, length, get_or, Contains, append-nil, append_assoc, refl, sym, ap, subst, ◌∙◌, arith}
use Rattle.std.specs.Prelude.{slice_index_or}
use Rattle.std.specs.List.{AllByRecursion, flat_map}
use Rattle.std.specs.List.Sorted.{IsPermutation}
use Rattle.std.proofs.lemmas.List.Sorted.{Contains-permutation, IsPermutation-sym}
use Rattle.qz_circ.specs.ProgramCircuits.{ProgramCircuit, IsProgramGate}
use Rattle.qz_queue.proofs.DifferentOnes.{Has, has_append, has_left, has_right}
use Rattle.qz_search.specs.Tables.{AreAlike}
use Rattle.qz_search.proofs.ClassLimits.{at_number}
use Rattle.qz_search.proofs.Members.{contains_has, has_contains}

-- ---- lists

pub on_ok_more : {A E : Type 0} (P Q : Type 0) (r : Result A E) → (P → Q) → OnOk r P → OnOk r Q
on_ok_more P Q (Ok a) f h = f h
on_ok_more P Q (Err e) f h = h

module _ {A : Type 0} where
  pub has_at : (xs : List A) (x : A) → Contains xs x → Has xs x
  has_at xs x h = by xs h.0 h.1 h.2
    where
      by : (ys : List A) (k : ℕ) → k < length ys → slice_index_or ys k x ≡ x → Has ys x
      by [] k less e = absurd (omega arith)
      by (y ∷ ys) zero less e = inl e
      by (y ∷ ys) (suc k) less e = inr (by ys k (omega arith) e)

  pub at_has : (xs : List A) (x : A) → Has xs x → Contains xs x
  at_has [] x h = absurd h
  at_has (y ∷ ys) x (inl e) = (0, omega arith, e)
  at_has (y ∷ ys) x (inr h) = let later = at_has ys x h in (suc later.0, omega (arith, later.1), later.2)

  pub each_of : (P : A → Type 0) (xs : List A) → ((x : A) → Has xs x → P x) → AllByRecursion P xs
  each_of P [] f = tt
  each_of P (x ∷ xs) f = (f x (inl refl), each_of P xs (λ y h. f y (inr h)))

  pub of_each : (P : A → Type 0) (xs : List A) (x : A) → AllByRecursion P xs → Has xs x → P x
  of_each P [] x each h = absurd h
  of_each P (y ∷ ys) x each (inl e) = subst P e each.0
  of_each P (y ∷ ys) x each (inr h) = of_each P ys x each.1 h

  pub each_front : (P : A → Type 0) (xs ys : List A) → AllByRecursion P (xs ++ ys) → AllByRecursion P xs
  each_front P xs ys each = each_of P xs (λ x h. of_each P (xs ++ ys) x each (has_left xs ys x h))

  pub each_back : (P : A → Type 0) (xs ys : List A) → AllByRecursion P (xs ++ ys) → AllByRecursion P ys
  each_back P xs ys each = each_of P ys (λ y h. of_each P (xs ++ ys) y each (has_right xs ys y h))

-- ---- children, in whichever order

-- the same for both, by what lists have
pub record Alike (f g : ProgramCircuit → List ProgramCircuit) : Type 0 where
  pub there : (c : ProgramCircuit) → AllByRecursion (IsProgramGate 64) c → (x : ProgramCircuit) → Has (f c) x → Has (g c) x
  pub back : (c : ProgramCircuit) → AllByRecursion (IsProgramGate 64) c → (x : ProgramCircuit) → Has (g c) x → Has (f c) x

pub said : (f g : ProgramCircuit → List ProgramCircuit) → Alike f g → AreAlike f g
said f g h c lawful x =
    (λ k. has_contains (g c) x (h.there c lawful x (contains_has (f c) x k)), λ k. has_contains (f c) x (h.back c lawful x (contains_has (g c) x k)))

pub known : (f g : ProgramCircuit → List ProgramCircuit) → AreAlike f g → Alike f g
known f g h =
    record {
      there = λ c lawful x k. contains_has (g c) x ((h c lawful x).0 (has_contains (f c) x k));
      back = λ c lawful x k. contains_has (f c) x ((h c lawful x).1 (has_contains (g c) x k));
    }

pub alike_same : (f g : ProgramCircuit → List ProgramCircuit) → ((c : ProgramCircuit) → AllByRecursion (IsProgramGate 64) c → f c ≡ g c) → AreAlike f g
alike_same f g h c lawful x = (λ k. subst (λ cs. Contains cs x) (h c lawful) k, λ k. subst (λ cs. Contains cs x) (sym (h c lawful)) k)

pub alike_then : (f g h : ProgramCircuit → List ProgramCircuit) → AreAlike f g → AreAlike g h → AreAlike f h
alike_then f g h a b c lawful x = (λ k. (b c lawful x).0 ((a c lawful x).0 k), λ k. (a c lawful x).1 ((b c lawful x).1 k))

-- what stands in front may stay
pub alike_behind : (e f g : ProgramCircuit → List ProgramCircuit) → AreAlike f g → AreAlike (λ c. e c ++ f c) (λ c. e c ++ g c)
alike_behind e f g h =
    let k = known f g h in
    said (λ c. e c ++ f c) (λ c. e c ++ g c) (record {
      there = λ c lawful x m. elim (has_append (e c) (f c) x m) [ inl a ↦ has_left (e c) (g c) x a | inr a ↦ has_right (e c) (g c) x (k.there c lawful x a) ];
      back = λ c lawful x m. elim (has_append (e c) (g c) x m) [ inl a ↦ has_left (e c) (f c) x a | inr a ↦ has_right (e c) (f c) x (k.back c lawful x a) ];
    })

pub alike_flip : (f g : ProgramCircuit → List ProgramCircuit) → AreAlike f g → AreAlike g f
alike_flip f g h c lawful x = ((h c lawful x).1, (h c lawful x).0)

-- what stands behind may stay
pub alike_before : (f g e : ProgramCircuit → List ProgramCircuit) → AreAlike f g → AreAlike (λ c. f c ++ e c) (λ c. g c ++ e c)
alike_before f g e h =
    let k = known f g h in
    said (λ c. f c ++ e c) (λ c. g c ++ e c) (record {
      there = λ c lawful x m. elim (has_append (f c) (e c) x m) [ inl a ↦ has_left (g c) (e c) x (k.there c lawful x a) | inr a ↦ has_right (g c) (e c) x a ];
      back = λ c lawful x m. elim (has_append (g c) (e c) x m) [ inl a ↦ has_left (f c) (e c) x (k.back c lawful x a) | inr a ↦ has_right (f c) (e c) x a ];
    })

-- the two last parts in the other order
pub alike_swapped : (e f g : ProgramCircuit → List ProgramCircuit) → AreAlike (λ c. (e c ++ f c) ++ g c) (λ c. (e c ++ g c) ++ f c)
alike_swapped e f g = said (λ c. (e c ++ f c) ++ g c) (λ c. (e c ++ g c) ++ f c) (record { there = λ c lawful x m. turn (e c) (f c) (g c) x m; back = λ c lawful x m. turn (e c) (g c) (f c) x m })
  where
    turn : (xs ys zs : List ProgramCircuit) (x : ProgramCircuit) → Has ((xs ++ ys) ++ zs) x → Has ((xs ++ zs) ++ ys) x
    turn xs ys zs x m =
        elim (has_append (xs ++ ys) zs x m) [ inl a ↦ elim (has_append xs ys x a) [ inl b ↦ has_left (xs ++ zs) ys x (has_left xs zs x b) | inr b ↦ has_right (xs ++ zs) ys x b ] | inr a ↦ has_left (xs ++ zs) ys x (has_right xs zs x a) ]

-- ---- more lists

-- what holds of all holds of one of them
pub item_of : {A : Type 0} (P : A → Type 0) (xs : List A) (i : ℕ) (x : A) → AllByRecursion P xs → i < length xs → x ≡ get_or xs i x → P x
item_of P xs i x each less is = subst P (sym is) (at_number P x xs i each less)

pub each_sorted : {A : Type 0} (P : A → Type 0) (xs sorted : List A) → IsPermutation xs sorted → AllByRecursion P xs → AllByRecursion P sorted
each_sorted P xs sorted h each =
    each_of P sorted (λ x m. of_each P xs x each (has_at xs x (Contains-permutation sorted xs x (IsPermutation-sym xs sorted h) (at_has sorted x m))))

pub has_sorted : {A : Type 0} (xs sorted : List A) (x : A) → IsPermutation xs sorted → Has xs x → Has sorted x
has_sorted xs sorted x h m = has_at sorted x (Contains-permutation xs sorted x h (at_has xs x m))

pub flat_map-append : {A B : Type 0} (f : A → List B) (xs ys : List A) → flat_map f (xs ++ ys) ≡ flat_map f xs ++ flat_map f ys
flat_map-append f [] ys = refl
flat_map-append f (x ∷ xs) ys = ap (λ zs. f x ++ zs) (flat_map-append f xs ys) ∙ sym (append_assoc (f x) (flat_map f xs) (flat_map f ys))

pub flat_map-one : {A B : Type 0} (f : A → List B) (xs : List A) (x : A) → flat_map f (xs ++ x ∷ []) ≡ flat_map f xs ++ f x
flat_map-one f xs x = flat_map-append f xs (x ∷ []) ∙ ap (λ ys. flat_map f xs ++ ys) (append-nil (f x))

pub none_left : {A : Type 0} (cs : List A) → length cs ≡ 0 → cs ≡ []
none_left [] h = refl
none_left (c ∷ cs) h = absurd (omega arith)
