-- What the lists of a search have.
use Rattle.std.proofs.Common.{◌≡◌, ℕ, zero, suc, ◌⊎◌, inl, inr, Bool, true, false, cond, ◌||◌, List, [], ◌∷◌, take, drop, Contains, refl, sym, ap, subst, ◌∙◌, Less, Equal, Greater, arith}
use Rattle.std.specs.declared.cmp.Ordering.{Ordering}
use Rattle.std.specs.Ordering.{is_eq, eq_by_cmp}
use Rattle.std.specs.List.{filter, flat_map}
use Rattle.std.specs.Cmp.{both_ways}
use Rattle.std.proofs.lemmas.Cmp.{tied_itself}
use Rattle.std.proofs.lemmas.List.{take-append-drop}
use Rattle.qz_circ.specs.ProgramCircuits.{ProgramCircuit, ones, program_cmp}
use Rattle.qz_circ.specs.Search.{is_among}
use Rattle.qz_circ.proofs.ProgramOrder.{program_cmp_total, program_cmp_exact}
use Rattle.qz_queue.proofs.DifferentOnes.{Has, has_append, has_left, has_right}
use Rattle.qz_queue.proofs.QueueLists.{among_contains}

module _ {K : Type 0} where
  pub has_filter : (p : K → Bool) (k : K) (xs : List K) → Has xs k → p k ≡ true → Has (filter p xs) k
  has_filter p k [] h e = h
  has_filter p k (x ∷ xs) h e = by (p x) refl h (λ g. has_filter p k xs g e)
    where
      by : (b : Bool) → p x ≡ b → (x ≡ k) ⊎ Has xs k → (Has xs k → Has (filter p xs) k) → Has (cond b (x ∷ filter p xs) (filter p xs)) k
      by true g (inl f) ih = inl f
      by true g (inr f) ih = inr (ih f)
      by false g (inl f) ih = let no = sym g ∙ ap p f ∙ e in cc
      by false g (inr f) ih = ih f

  pub filter_has : (p : K → Bool) (k : K) (xs : List K) → Has (filter p xs) k → Has xs k × (p k ≡ true)
  filter_has p k [] h = absurd h
  filter_has p k (x ∷ xs) h = by (p x) refl h (filter_has p k xs)
    where
      more : Has xs k × (p k ≡ true) → ((x ≡ k) ⊎ Has xs k) × (p k ≡ true)
      more f = (inr f.0, f.1)

      by : (b : Bool) → p x ≡ b → Has (cond b (x ∷ filter p xs) (filter p xs)) k → (Has (filter p xs) k → Has xs k × (p k ≡ true)) → ((x ≡ k) ⊎ Has xs k) × (p k ≡ true)
      by true g (inl f) ih = (inl f, sym (ap p f) ∙ g)
      by true g (inr f) ih = more (ih f)
      by false g f ih = more (ih f)

  pub has_flat_map : {J : Type 0} (f : J → List K) (ys : List J) (y : J) (k : K) → Has ys y → Has (f y) k → Has (flat_map f ys) k
  has_flat_map f [] y k h g = absurd h
  has_flat_map f (z ∷ zs) y k (inl e) g = has_left (f z) (flat_map f zs) k (subst (λ w. Has (f w) k) (sym e) g)
  has_flat_map f (z ∷ zs) y k (inr h) g = has_right (f z) (flat_map f zs) k (has_flat_map f zs y k h g)

  pub flat_map_has : {J : Type 0} (f : J → List K) (ys : List J) (k : K) → Has (flat_map f ys) k → (y : J) × Has ys y × Has (f y) k
  flat_map_has f [] k h = absurd h
  flat_map_has f (z ∷ zs) k h =
      elim (has_append (f z) (flat_map f zs) k h) [ inl g ↦ (z, inl refl, g) | inr g ↦ (let found = flat_map_has f zs k g in (found.0, inr found.1, found.2)) ]

  pub has_split : (n : ℕ) (xs : List K) (k : K) → Has xs k → Has (take n xs) k ⊎ Has (drop n xs) k
  has_split n xs k h = has_append (take n xs) (drop n xs) k (subst (λ ys. Has ys k) (sym (take-append-drop n xs)) h)

-- membership as a test, and by places
pub among_has : (cs : List ProgramCircuit) (c : ProgramCircuit) → is_among cs c ≡ true → Has cs c
among_has [] c h = cc
among_has (d ∷ ds) c h = by (program_cmp ones c d) refl h (among_has ds c)
  where
    by : (r : Ordering) → program_cmp ones c d ≡ r → is_eq r || is_among ds c ≡ true → (is_among ds c ≡ true → Has ds c) → (d ≡ c) ⊎ Has ds c
    by Less e g ih = inr (ih g)
    by Equal e g ih = inl (sym (program_cmp_exact ones c d e))
    by Greater e g ih = inr (ih g)

pub has_among : (cs : List ProgramCircuit) (c : ProgramCircuit) → Has cs c → is_among cs c ≡ true
has_among [] c h = absurd h
has_among (d ∷ ds) c (inl e) =
    (λ i. is_eq (program_cmp ones c (e i)) || is_among ds c) ∙ (λ i. is_eq (tied_itself (program_cmp_total ones) c i) || is_among ds c)
has_among (d ∷ ds) c (inr h) = (λ i. eq_by_cmp (program_cmp ones) c d || has_among ds c h i) ∙ or_true (eq_by_cmp (program_cmp ones) c d)
  where
    or_true : (b : Bool) → b || true ≡ true
    or_true true = refl
    or_true false = refl

pub contains_has : {K : Type 0} (xs : List K) (k : K) → Contains xs k → Has xs k
contains_has [] k h = absurd (omega (arith, h.1))
contains_has (x ∷ xs) k (zero, inside, is) = inl is
contains_has (x ∷ xs) k (suc i, inside, is) = inr (contains_has xs k (i, omega (arith, inside), is))

pub has_contains : (cs : List ProgramCircuit) (c : ProgramCircuit) → Has cs c → Contains cs c
has_contains cs c h = among_contains cs c (has_among cs c h)

-- lists with the same ones answer the test alike
pub among_same : (cs ds : List ProgramCircuit) (c : ProgramCircuit) → (Has cs c → Has ds c) → (Has ds c → Has cs c) → is_among cs c ≡ is_among ds c
among_same cs ds c f g =
    both_ways (is_among cs c) (is_among ds c) (λ h. has_among ds c (f (among_has cs c h))) (λ h. has_among cs c (g (among_has ds c h)))
