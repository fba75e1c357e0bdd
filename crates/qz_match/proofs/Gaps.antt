-- Between two selected gates on a qubit, with no other selected gate on it between them, no gate is on it where the gates gather.
use Rattle.std.proofs.Common.{◌≡◌, ◌≢◌, ℕ, zero, suc, ◌+◌, ◌<◌, ◌≤◌, ◌==◌, ◌||◌, Bool, true, false, not, if◌then◌else◌, List, [], ◌∷◌, ◌++◌, length, get_or, refl, sym, ap, ◌∙◌, subst, arith, ◌⊎◌, inl, inr}
use Rattle.std.specs.List.{list_any, AllByRecursion}
use Rattle.std.proofs.lemmas.Bool.{eqb-true, eq-eqb, and_parts, not-true, cases_eq}
use Rattle.std.proofs.lemmas.List.Folds.{list_any-append}
use Rattle.qz_circ.specs.declared.circuit.Inst.{Inst}
use Rattle.qz_circ.specs.Gathering.{qubits_of, is_on, shares, meets, marked, is_after, gathers}
use Rattle.qz_circ.specs.ProgramCircuits.{ProgramCircuit}
use Rattle.qz_match.proofs.Tests.{first_or, second_or, any_listed, any_weaker}

-- ---- common qubits

-- a gate meets others of which one is on its qubit
pub meets_so : (w : ℕ) (g : Inst) (gates : ProgramCircuit) → is_on w g ≡ true → list_any (is_on w) gates ≡ true → meets g gates ≡ true
meets_so w g gates on any = any_weaker (is_on w) (λ f. shares g f) gates (λ f here. any_listed (λ u. is_on u f) (qubits_of g) w on here) any

-- ---- programs by a function of positions

-- the gates are those at the positions from i on
abbrev pub StandFrom : (ℕ → Inst) → ℕ → ProgramCircuit → Type 0
StandFrom at i [] = Unit {0}
StandFrom at i (g ∷ c) = (at i ≡ g) × StandFrom at (suc i) c

-- positions from i on and below m, rising
abbrev pub RiseFrom : ℕ → ℕ → List ℕ → Type 0
RiseFrom i m [] = Unit {0}
RiseFrom i m (p ∷ ps) = (i ≤ p) × (p < m) × RiseFrom (suc p) m ps

pub rise_lower : (i j m : ℕ) (ps : List ℕ) → i ≤ j → RiseFrom j m ps → RiseFrom i m ps
rise_lower i j m [] l h = tt
rise_lower i j m (p ∷ ps) l h = let from = h.0 in (omega arith, h.1, h.2)

-- ---- one gate of gathering

-- a selected gate meets none that comes after
pub selected_goes : (chosen after : ProgramCircuit) (g : Inst) (rest : List (Bool × Inst)) → gathers chosen after ((true, g) ∷ rest) ≡ true → (meets g after ≡ false) × (gathers (chosen ++ g ∷ []) after rest ≡ true)
unfolding gathers
selected_goes chosen after g rest h = let parts = and_parts (not (meets g after)) (gathers (chosen ++ g ∷ []) after rest) h in (not-true (meets g after) parts.0, parts.1)

-- another gate comes after or not
pub other_goes : (chosen after : ProgramCircuit) (g : Inst) (rest : List (Bool × Inst)) → gathers chosen after ((false, g) ∷ rest) ≡ true → ((is_after chosen after g ≡ true) × (gathers chosen (after ++ g ∷ []) rest ≡ true)) ⊎ ((is_after chosen after g ≡ false) × (gathers chosen after rest ≡ true))
unfolding gathers
other_goes chosen after g rest h = by (is_after chosen after g) refl h
  where
    by : (b : Bool) → is_after chosen after g ≡ b → (if b then gathers chosen (after ++ g ∷ []) rest else gathers chosen after rest) ≡ true → ((is_after chosen after g ≡ true) × (gathers chosen (after ++ g ∷ []) rest ≡ true)) ⊎ ((is_after chosen after g ≡ false) × (gathers chosen after rest ≡ true))
    by true e k = inl (e, k)
    by false e k = inr (e, k)

-- the first gate is selected, or it isn't
pub marked_first : (i p : ℕ) (ps : List ℕ) (g : Inst) (c : ProgramCircuit) → ((p ≡ i) × (marked i (p ∷ ps) (g ∷ c) ≡ (true, g) ∷ marked (suc i) ps c)) ⊎ ((p ≢ i) × (marked i (p ∷ ps) (g ∷ c) ≡ (false, g) ∷ marked (suc i) (p ∷ ps) c))
unfolding marked
marked_first i p ps g c = by (p == i) refl
  where
    by : (b : Bool) → (p == i) ≡ b → ((p ≡ i) × ((if p == i then (true, g) ∷ marked (suc i) ps c else (false, g) ∷ marked (suc i) (p ∷ ps) c) ≡ (true, g) ∷ marked (suc i) ps c)) ⊎ ((p ≢ i) × ((if p == i then (true, g) ∷ marked (suc i) ps c else (false, g) ∷ marked (suc i) (p ∷ ps) c) ≡ (false, g) ∷ marked (suc i) (p ∷ ps) c))
    by true e = inl (eqb-true p i e, rw e)
    by false e = inr (λ same. let equal : (p == i) ≡ true = eq-eqb p i same in cc, rw e)

any_pushed : (w : ℕ) (gates : ProgramCircuit) (g : Inst) → is_on w g ≡ true → list_any (is_on w) (gates ++ g ∷ []) ≡ true
any_pushed w gates g on = rw (list_any-append (is_on w) gates (g ∷ [])) (second_or (list_any (is_on w) gates) (is_on w g || false) (first_or (is_on w g) false on))

any_kept : (w : ℕ) (gates : ProgramCircuit) (g : Inst) → list_any (is_on w) gates ≡ true → list_any (is_on w) (gates ++ g ∷ []) ≡ true
any_kept w gates g on = rw (list_any-append (is_on w) gates (g ∷ [])) (first_or (list_any (is_on w) gates) (is_on w g || false) on)

-- what holds of each position holds of one of them
all_at : (P : ℕ → Type 0) (ps : List ℕ) → AllByRecursion P ps → (t : ℕ) → t < length ps → P (get_or ps t 0)
all_at P [] h t l = absurd (omega arith)
all_at P (p ∷ ps) h zero l = h.0
all_at P (p ∷ ps) h (suc t) l = all_at P ps h.1 t (omega arith)

-- ---- gaps

module _ (at : ℕ → Inst) (w : ℕ) (m : ℕ) where
  -- once a gate on the qubit comes after, no later selected gate is on it
  blocked : (c : ProgramCircuit) (i : ℕ) (ps : List ℕ) (chosen after : ProgramCircuit) → StandFrom at i c → m ≡ i + length c → RiseFrom i m ps → gathers chosen after (marked i ps c) ≡ true → list_any (is_on w) after ≡ true → AllByRecursion (λ p. is_on w (at p) ≡ false) ps
  blocked c i [] chosen after stand size rise h on = tt
  blocked [] i (p ∷ ps) chosen after stand size rise h on = let low = rise.0 in let high = rise.1 in absurd (omega arith)
  blocked (g ∷ c) i (p ∷ ps) chosen after stand size rise h on =
      by (λ qs xs ys r k o. blocked c (suc i) qs xs ys stand.1 (omega arith) r k o) (marked_first i p ps g c)
    where
      off : meets g after ≡ false → (b : Bool) → is_on w g ≡ b → b ≡ false
      off free true e = let met : meets g after ≡ true = meets_so w g after e on in cc
      off free false e = refl

      by : ((qs : List ℕ) (xs ys : ProgramCircuit) → RiseFrom (suc i) m qs → gathers xs ys (marked (suc i) qs c) ≡ true → list_any (is_on w) ys ≡ true → AllByRecursion (λ p. is_on w (at p) ≡ false) qs) → ((p ≡ i) × (marked i (p ∷ ps) (g ∷ c) ≡ (true, g) ∷ marked (suc i) ps c)) ⊎ ((p ≢ i) × (marked i (p ∷ ps) (g ∷ c) ≡ (false, g) ∷ marked (suc i) (p ∷ ps) c)) → AllByRecursion (λ p. is_on w (at p) ≡ false) (p ∷ ps)
      by rest (inl (same, marks)) =
          let goes = selected_goes chosen after g (marked (suc i) ps c) (sym (ap (gathers chosen after) marks) ∙ h) in
          let here : is_on w (at p) ≡ false = ap (is_on w) (ap at same ∙ stand.0) ∙ off goes.0 (is_on w g) refl in
          (here, rest ps (chosen ++ g ∷ []) after (subst (λ j. RiseFrom (suc j) m ps) same rise.2) goes.1 on)
      by rest (inr (other, marks)) = more (other_goes chosen after g (marked (suc i) (p ∷ ps) c) (sym (ap (gathers chosen after) marks) ∙ h))
        where
          low : suc i ≤ p
          low = let from = rise.0 in omega arith

          more : ((is_after chosen after g ≡ true) × (gathers chosen (after ++ g ∷ []) (marked (suc i) (p ∷ ps) c) ≡ true)) ⊎ ((is_after chosen after g ≡ false) × (gathers chosen after (marked (suc i) (p ∷ ps) c) ≡ true)) → AllByRecursion (λ p. is_on w (at p) ≡ false) (p ∷ ps)
          more (inl (late, k)) = rest (p ∷ ps) chosen (after ++ g ∷ []) (low, rise.1, rise.2) k (any_kept w after g on)
          more (inr (early, k)) = rest (p ∷ ps) chosen after (low, rise.1, rise.2) k on

  -- behind a selected gate on the qubit no gate is on it up to the next selected one on it
  first_clear : (c : ProgramCircuit) (i : ℕ) (ps : List ℕ) (chosen after : ProgramCircuit) → StandFrom at i c → m ≡ i + length c → RiseFrom i m ps → gathers chosen after (marked i ps c) ≡ true → list_any (is_on w) chosen ≡ true → (t : ℕ) → t < length ps → ((k : ℕ) → k < t → is_on w (at (get_or ps k 0)) ≡ false) → is_on w (at (get_or ps t 0)) ≡ true → (x : ℕ) → i ≤ x → x < get_or ps t 0 → is_on w (at x) ≡ false
  first_clear c i [] chosen after stand size rise h on t l before there x from below = absurd (omega arith)
  first_clear [] i (p ∷ ps) chosen after stand size rise h on t l before there x from below = let low = rise.0 in let high = rise.1 in absurd (omega arith)
  first_clear (g ∷ c) i (p ∷ ps) chosen after stand size rise h on t l before there x from below =
      by (λ qs xs ys r k o. first_clear c (suc i) qs xs ys stand.1 (omega arith) r k o) (marked_first i p ps g c) t l before there below (cases_eq x i)
    where
      Rest : List ℕ → Type 0
      Rest qs = (xs ys : ProgramCircuit) → RiseFrom (suc i) m qs → gathers xs ys (marked (suc i) qs c) ≡ true → list_any (is_on w) xs ≡ true → (t : ℕ) → t < length qs → ((k : ℕ) → k < t → is_on w (at (get_or qs k 0)) ≡ false) → is_on w (at (get_or qs t 0)) ≡ true → (x : ℕ) → suc i ≤ x → x < get_or qs t 0 → is_on w (at x) ≡ false

      by : ((qs : List ℕ) → Rest qs) → ((p ≡ i) × (marked i (p ∷ ps) (g ∷ c) ≡ (true, g) ∷ marked (suc i) ps c)) ⊎ ((p ≢ i) × (marked i (p ∷ ps) (g ∷ c) ≡ (false, g) ∷ marked (suc i) (p ∷ ps) c)) → (t : ℕ) → t < suc (length ps) → ((k : ℕ) → k < t → is_on w (at (get_or (p ∷ ps) k 0)) ≡ false) → is_on w (at (get_or (p ∷ ps) t 0)) ≡ true → x < get_or (p ∷ ps) t 0 → (x ≡ i) ⊎ (x ≢ i) → is_on w (at x) ≡ false
      by rest (inl (same, marks)) zero l before there below place = absurd (omega arith)
      by rest (inl (same, marks)) (suc t) l before there below (inl first) = ap (is_on w) (ap at (first ∙ sym same)) ∙ before 0 (omega arith)
      by rest (inl (same, marks)) (suc t) l before there below (inr later) =
          let goes = selected_goes chosen after g (marked (suc i) ps c) (sym (ap (gathers chosen after) marks) ∙ h) in
          rest ps (chosen ++ g ∷ []) after (subst (λ j. RiseFrom (suc j) m ps) same rise.2) goes.1 (any_kept w chosen g on) t (omega arith) (λ k l. before (suc k) (omega arith)) there x (omega arith) below
      by rest (inr (other, marks)) t l before there below place = more (other_goes chosen after g (marked (suc i) (p ∷ ps) c) (sym (ap (gathers chosen after) marks) ∙ h)) place
        where
          rise_on : RiseFrom (suc i) m (p ∷ ps)
          rise_on = let low = rise.0 in (omega arith, rise.1, rise.2)

          Goes : Type 0
          Goes = ((is_after chosen after g ≡ true) × (gathers chosen (after ++ g ∷ []) (marked (suc i) (p ∷ ps) c) ≡ true)) ⊎ ((is_after chosen after g ≡ false) × (gathers chosen after (marked (suc i) (p ∷ ps) c) ≡ true))

          late : is_on w g ≡ true → is_after chosen after g ≡ true
          late e = first_or (meets g chosen) (meets g after) (meets_so w g chosen e on)

          off : Goes → (b : Bool) → is_on w g ≡ b → b ≡ false
          off goes false e = refl
          off (inr (early, k)) true e = let comes : is_after chosen after g ≡ true = late e in cc
          off (inl (comes, k)) true e =
              let none = blocked c (suc i) (p ∷ ps) chosen (after ++ g ∷ []) stand.1 (omega arith) rise_on k (any_pushed w after g e) in
              let none_there : is_on w (at (get_or (p ∷ ps) t 0)) ≡ false = all_at (λ q. is_on w (at q) ≡ false) (p ∷ ps) none t l in
              cc

          more : Goes → (x ≡ i) ⊎ (x ≢ i) → is_on w (at x) ≡ false
          more goes (inl first) = ap (is_on w) (ap at first ∙ stand.0) ∙ off goes (is_on w g) refl
          more (inl (comes, k)) (inr later) = rest (p ∷ ps) chosen (after ++ g ∷ []) rise_on k on t l before there x (omega arith) below
          more (inr (early, k)) (inr later) = rest (p ∷ ps) chosen after rise_on k on t l before there x (omega arith) below

  -- between two selected gates on the qubit, with no other one on it between them, no gate is on it
  pub gaps : (c : ProgramCircuit) (i : ℕ) (ps : List ℕ) (chosen after : ProgramCircuit) → StandFrom at i c → m ≡ i + length c → RiseFrom i m ps → gathers chosen after (marked i ps c) ≡ true → (a b : ℕ) → a < b → b < length ps → is_on w (at (get_or ps a 0)) ≡ true → ((k : ℕ) → a < k → k < b → is_on w (at (get_or ps k 0)) ≡ false) → is_on w (at (get_or ps b 0)) ≡ true → (x : ℕ) → get_or ps a 0 < x → x < get_or ps b 0 → is_on w (at x) ≡ false
  gaps c i [] chosen after stand size rise h a b up l one between two x from below = absurd (omega arith)
  gaps [] i (p ∷ ps) chosen after stand size rise h a b up l one between two x from below = let low = rise.0 in let high = rise.1 in absurd (omega arith)
  gaps (g ∷ c) i (p ∷ ps) chosen after stand size rise h a b up l one between two x from below =
      by (λ qs xs ys r k. gaps c (suc i) qs xs ys stand.1 (omega arith) r k) (marked_first i p ps g c) a b up l one between two from below
    where
      Between : List ℕ → ℕ → ℕ → Type 0
      Between qs a b = (k : ℕ) → a < k → k < b → is_on w (at (get_or qs k 0)) ≡ false

      Rest : List ℕ → Type 0
      Rest qs = (xs ys : ProgramCircuit) → RiseFrom (suc i) m qs → gathers xs ys (marked (suc i) qs c) ≡ true → (a b : ℕ) → a < b → b < length qs → is_on w (at (get_or qs a 0)) ≡ true → ((k : ℕ) → a < k → k < b → is_on w (at (get_or qs k 0)) ≡ false) → is_on w (at (get_or qs b 0)) ≡ true → (x : ℕ) → get_or qs a 0 < x → x < get_or qs b 0 → is_on w (at x) ≡ false

      by : ((qs : List ℕ) → Rest qs) → ((p ≡ i) × (marked i (p ∷ ps) (g ∷ c) ≡ (true, g) ∷ marked (suc i) ps c)) ⊎ ((p ≢ i) × (marked i (p ∷ ps) (g ∷ c) ≡ (false, g) ∷ marked (suc i) (p ∷ ps) c)) → (a b : ℕ) → a < b → b < suc (length ps) → is_on w (at (get_or (p ∷ ps) a 0)) ≡ true → ((k : ℕ) → a < k → k < b → is_on w (at (get_or (p ∷ ps) k 0)) ≡ false) → is_on w (at (get_or (p ∷ ps) b 0)) ≡ true → get_or (p ∷ ps) a 0 < x → x < get_or (p ∷ ps) b 0 → is_on w (at x) ≡ false
      by rest place a zero up l one between two from below = absurd (omega arith)
      by rest (inl (same, marks)) zero (suc b) up l one between two from below =
          let goes = selected_goes chosen after g (marked (suc i) ps c) (sym (ap (gathers chosen after) marks) ∙ h) in
          let here : is_on w g ≡ true = sym (ap (is_on w) (ap at same ∙ stand.0)) ∙ one in
          first_clear c (suc i) ps (chosen ++ g ∷ []) after stand.1 (omega arith) (subst (λ j. RiseFrom (suc j) m ps) same rise.2) goes.1 (any_pushed w chosen g here) b (omega arith) (λ k l. between (suc k) (omega arith) (omega arith)) two x (omega arith) below
      by rest (inl (same, marks)) (suc a) (suc b) up l one between two from below =
          let goes = selected_goes chosen after g (marked (suc i) ps c) (sym (ap (gathers chosen after) marks) ∙ h) in
          rest ps (chosen ++ g ∷ []) after (subst (λ j. RiseFrom (suc j) m ps) same rise.2) goes.1 a b (omega arith) (omega arith) one (λ k l n. between (suc k) (omega arith) (omega arith)) two x from below
      by rest (inr (other, marks)) a (suc b) up l one between two from below = more (other_goes chosen after g (marked (suc i) (p ∷ ps) c) (sym (ap (gathers chosen after) marks) ∙ h))
        where
          rise_on : RiseFrom (suc i) m (p ∷ ps)
          rise_on = let low = rise.0 in (omega arith, rise.1, rise.2)

          more : ((is_after chosen after g ≡ true) × (gathers chosen (after ++ g ∷ []) (marked (suc i) (p ∷ ps) c) ≡ true)) ⊎ ((is_after chosen after g ≡ false) × (gathers chosen after (marked (suc i) (p ∷ ps) c) ≡ true)) → is_on w (at x) ≡ false
          more (inl (comes, k)) = rest (p ∷ ps) chosen (after ++ g ∷ []) rise_on k a (suc b) up l one between two x from below
          more (inr (early, k)) = rest (p ∷ ps) chosen after rise_on k a (suc b) up l one between two x from below
