-- Gathering gate by gate.
use Rattle.std.proofs.Common.{◌≡◌, ◌≢◌, ℕ, zero, suc, ◌+◌, ◌<◌, ◌≤◌, ◌==◌, ◌&&◌, Bool, true, false, if◌then◌else◌, List, [], ◌∷◌, length, get_or, drop, refl, sym, ap, ◌∙◌, subst, arith, ◌⊎◌, inl, inr, nat_le, nat_lt}
use Rattle.std.proofs.lemmas.Bool.{leb-true, ltb-true, and_parts, eq-eqb, eqb-true}
use Rattle.std.proofs.lemmas.List.{drop_more, drop_all}
use Rattle.qz_circ.specs.declared.circuit.Inst.TheVariants.{H}
use Rattle.qz_circ.specs.Gathering.{marked, gathers}
use Rattle.qz_circ.specs.ProgramCircuits.{ProgramCircuit}
use Rattle.qz_match.specs.Neighbours.{gate_at}
use Rattle.qz_match.specs.Flags.{AreFlagsOf, Passes}
use Rattle.qz_match.specs.Starts.{rises}
use Rattle.qz_match.proofs.Gaps.{RiseFrom, marked_first}

-- ---- rising positions

pub rises-from : (low m : ℕ) (ps : List ℕ) → rises low m ps ≡ true → RiseFrom low m ps
rises-from low m [] h = tt
rises-from low m (p ∷ ps) h =
    let outer = and_parts (nat_le low p && nat_lt p m) (rises (suc p) m ps) h in
    let inner = and_parts (nat_le low p) (nat_lt p m) outer.0 in
    (leb-true low p inner.0, ltb-true p m inner.1, rises-from (suc p) m ps outer.1)

-- ---- up to the first position

skipped : (n i p : ℕ) (ps : List ℕ) (c : ProgramCircuit) → p ≡ i + n → gathers [] [] (marked i (p ∷ ps) c) ≡ gathers [] [] (marked p (p ∷ ps) (drop n c))
unfolding marked gathers
skipped zero i p ps c e = let same : i ≡ p = omega arith in ap (λ j. gathers [] [] (marked j (p ∷ ps) c)) same
skipped (suc n) i p ps [] e = refl
skipped (suc n) i p ps (g ∷ c) e = by (marked_first i p ps g c) ∙ skipped n (suc i) p ps c (omega arith)
  where
    by : ((p ≡ i) × (marked i (p ∷ ps) (g ∷ c) ≡ (true, g) ∷ marked (suc i) ps c)) ⊎ ((p ≢ i) × (marked i (p ∷ ps) (g ∷ c) ≡ (false, g) ∷ marked (suc i) (p ∷ ps) c)) → gathers [] [] (marked i (p ∷ ps) (g ∷ c)) ≡ gathers [] [] (marked (suc i) (p ∷ ps) c)
    by (inl (same, marks)) = absurd (omega arith)
    by (inr (other, marks)) = ap (gathers [] []) marks

-- ---- gate by gate

-- what is left of the gathering at position x, where k of the positions are passed
pub record IsGathering (c : ProgramCircuit) (ps : List ℕ) (x k : ℕ) (chosen after : List Bool) : Type 0 where
  pub xs : ProgramCircuit
  pub ys : ProgramCircuit
  pub chosen_flagged : AreFlagsOf chosen xs
  pub after_flagged : AreFlagsOf after ys
  pub same : gathers [] [] (marked 0 ps c) ≡ gathers xs ys (marked x (drop k ps) (drop x c))
  pub rising : RiseFrom x (length c) (drop k ps)

pub gathering_first : (c : ProgramCircuit) (ps : List ℕ) (x : ℕ) (chosen after : List Bool) → 0 < length ps → rises 0 (length c) ps ≡ true → x ≡ get_or ps 0 0 → AreFlagsOf chosen [] → AreFlagsOf after [] → IsGathering c ps x 0 chosen after
gathering_first c [] x chosen after some rise first f g = absurd (omega arith)
gathering_first c (p ∷ ps) x chosen after some rise first f g =
    let up = rises-from 0 (length c) (p ∷ ps) rise in
    let start : gathers [] [] (marked 0 (p ∷ ps) c) ≡ gathers [] [] (marked p (p ∷ ps) (drop p c)) = skipped p 0 p ps c (omega arith) in
    record {
      xs = [];
      ys = [];
      chosen_flagged = f;
      after_flagged = g;
      same = start ∙ ap (λ y. gathers [] [] (marked y (p ∷ ps) (drop y c))) (sym first);
      rising = (omega arith, up.1, up.2);
    }

module _ (c : ProgramCircuit) (ps : List ℕ) (x k : ℕ) (chosen after : List Bool) (h : IsGathering c ps x k chosen after) (more : k < length ps) where
  split : drop k ps ≡ get_or ps k 0 ∷ drop (k + 1) ps
  split = drop_more ps k 0 more

  rise : RiseFrom x (length c) (get_or ps k 0 ∷ drop (k + 1) ps)
  rise = subst (λ qs. RiseFrom x (length c) qs) split h.rising

  pub gathering_low : x ≤ get_or ps k 0
  gathering_low = rise.0

  pub gathering_within : x < length c
  gathering_within = let low = rise.0 in let high = rise.1 in omega arith

  here : drop x c ≡ gate_at c x ∷ drop (x + 1) c
  here = drop_more c x (H 0) gathering_within

  next : (b : Bool) → (get_or ps k 0 == x) ≡ b → marked x (drop k ps) (drop x c) ≡ (b, gate_at c x) ∷ marked (x + 1) (drop (if b then k + 1 else k) ps) (drop (x + 1) c)
  unfolding marked
  next true e = rw (split, here, e) (ap (λ y. (true, gate_at c x) ∷ marked y (drop (k + 1) ps) (drop (x + 1) c)) (let one : suc x ≡ x + 1 = omega arith in one))
  next false e = rw (here) (ap (λ qs. marked x qs (gate_at c x ∷ drop (x + 1) c)) split ∙ rw e (ap (λ y. (false, gate_at c x) ∷ marked y (get_or ps k 0 ∷ drop (k + 1) ps) (drop (x + 1) c)) (let one : suc x ≡ x + 1 = omega arith in one) ∙ ap (λ qs. (false, gate_at c x) ∷ marked (x + 1) qs (drop (x + 1) c)) (sym split)))

  pub gathering_more : (b : Bool) (chosen_next after_next : List Bool) → (get_or ps k 0 == x) ≡ b → Passes b (gate_at c x) h.xs h.ys chosen_next after_next true → IsGathering c ps (x + 1) (if b then k + 1 else k) chosen_next after_next
  gathering_more b chosen_next after_next e passes = record {
    xs = passes.chosen_next;
    ys = passes.after_next;
    chosen_flagged = passes.chosen_flagged;
    after_flagged = passes.after_flagged;
    same = h.same ∙ ap (gathers h.xs h.ys) (next b e) ∙ passes.same (marked (x + 1) (drop (if b then k + 1 else k) ps) (drop (x + 1) c));
    rising = up b e;
  }
    where
      up : (b : Bool) → (get_or ps k 0 == x) ≡ b → RiseFrom (x + 1) (length c) (drop (if b then k + 1 else k) ps)
      up true e = subst (λ j. RiseFrom j (length c) (drop (k + 1) ps)) (let same : get_or ps k 0 ≡ x = eqb-true (get_or ps k 0) x e in omega arith) rise.2
      up false e = subst (λ qs. RiseFrom (x + 1) (length c) qs) (sym split) (let low = rise.0 in let other : get_or ps k 0 ≢ x = (λ same. let equal : (get_or ps k 0 == x) ≡ true = eq-eqb (get_or ps k 0) x same in cc) in omega arith, rise.1, rise.2)

  pub gathering_fails : (b : Bool) (chosen_next after_next : List Bool) → (get_or ps k 0 == x) ≡ b → Passes b (gate_at c x) h.xs h.ys chosen_next after_next false → gathers [] [] (marked 0 ps c) ≡ false
  gathering_fails b chosen_next after_next e passes = h.same ∙ ap (gathers h.xs h.ys) (next b e) ∙ passes.same (marked (x + 1) (drop (if b then k + 1 else k) ps) (drop (x + 1) c))

pub gathering_done : (c : ProgramCircuit) (ps : List ℕ) (x k : ℕ) (chosen after : List Bool) → IsGathering c ps x k chosen after → length ps ≤ k → gathers [] [] (marked 0 ps c) ≡ true
unfolding marked gathers
gathering_done c ps x k chosen after h l = h.same ∙ ap (λ qs. gathers h.xs h.ys (marked x qs (drop x c))) (drop_all k ps l)
