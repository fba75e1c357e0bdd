-- The monomials that can take one matrix to another are found among the exponents of one entry.
use Rattle.std.proofs.Common.{◌≡◌, ◌≢◌, ℕ, zero, suc, ◌<◌, ◌≤◌, Bool, true, false, [], ◌∷◌, length, Some, ℤ, pos, ◌-ℤ◌, neg_ℤ, FitsSigned, to_z, of_z, sym, ap, subst, ◌∙◌, refl, arith, ◌⊎◌, inl, inr, ⊎_elim}
use Rattle.std.specs.Prelude.{unsigned_abs, slice_get, IsTrue, ◌↔◌}
use Rattle.std.specs.Int.{w64}
use Rattle.std.proofs.lemmas.Int.{ints, to_z-of_z, fits_signed_from_abs}
use Rattle.qz_ring.specs.Exponent.{Exponent as Monomial, IsExponent as IsMonomial, minus, with_turns, zero_exponent, reach_of, same_exponent}
use Rattle.qz_ring.specs.Terms.{Term, Terms, count, coefficient_at, largest_reach}
use Rattle.qz_ring.proofs.Numbers.{unsigned_abs-add, unsigned_abs-neg}
use Rattle.qz_ring.proofs.Order.{same_from_parts, same_exponent-decides}
use Rattle.qz_matrix.specs.Entries.{Entries, entry_at}
use Rattle.qz_equiv.specs.Phases.{IsMultipleMatrix, HasPhase, IsZeroMatrix, IsPivot, AreAlike, AreAlikeMatrices, IsTimesRoots}
use Rattle.qz_equiv.proofs.RootLemmas.{multiple_alike, zero_multiple}

-- a small power fits its type, and so does the difference of two
power_fits : (p : ℤ) → unsigned_abs p ≤ 200 → FitsSigned w64 p
power_fits p small = fits_signed_from_abs w64 p (omega arith)

-- the difference of two small powers is small
small_difference : (p q : ℤ) → unsigned_abs p ≤ 100 → unsigned_abs q ≤ 100 → unsigned_abs (p -ℤ q) ≤ 200
small_difference p q small_p small_q = omega (arith, unsigned_abs-add p (neg_ℤ q), unsigned_abs-neg q)

-- two powers, as the code reads them, have the difference of the powers
power_read : (x y p q : ℤ) → x ≡ p → y ≡ q → unsigned_abs p ≤ 100 → unsigned_abs q ≤ 100 → to_z w64 (of_z w64 x) -ℤ to_z w64 (of_z w64 y) ≡ p -ℤ q
power_read x y p q first second small_p small_q =
    rw (first, second, to_z-of_z w64 p (power_fits p (omega arith)), to_z-of_z w64 q (power_fits q (omega arith))) refl

-- it fits its type
pub difference_fits : (x y p q : ℤ) → x ≡ p → y ≡ q → unsigned_abs p ≤ 100 → unsigned_abs q ≤ 100 → FitsSigned w64 (to_z w64 (of_z w64 x) -ℤ to_z w64 (of_z w64 y))
difference_fits x y p q first second small_p small_q =
    subst (FitsSigned w64) (sym (power_read x y p q first second small_p small_q)) (power_fits (p -ℤ q) (small_difference p q small_p small_q))

-- the difference of two powers, as the code makes it, is their difference
pub power_difference : (x y p q : ℤ) → x ≡ p → y ≡ q → unsigned_abs p ≤ 100 → unsigned_abs q ≤ 100 → to_z w64 (of_z w64 (to_z w64 (of_z w64 x) -ℤ to_z w64 (of_z w64 y))) ≡ p -ℤ q
power_difference x y p q first second small_p small_q =
    ap (λ z. to_z w64 (of_z w64 z)) (power_read x y p q first second small_p small_q) ∙ to_z-of_z w64 (p -ℤ q) (power_fits (p -ℤ q) (small_difference p q small_p small_q))

-- each power is at most as large as the largest
pub powers_within : (e : Monomial) (n : ℕ) → reach_of e ≤ n → (unsigned_abs e.x0 ≤ n) × (unsigned_abs e.x1 ≤ n) × (unsigned_abs e.x2 ≤ n)
powers_within e n h = (omega arith, omega arith, omega arith)

-- a quotient's powers are at most as large as both powers together
pub reach_of-minus : (a b : Monomial) → reach_of a ≤ 100 → reach_of b ≤ 100 → reach_of (minus a b) ≤ 200
reach_of-minus a b small_a small_b =
    omega (arith, unsigned_abs-add a.x0 (neg_ℤ b.x0), unsigned_abs-neg b.x0, unsigned_abs-add a.x1 (neg_ℤ b.x1), unsigned_abs-neg b.x1, unsigned_abs-add a.x2 (neg_ℤ b.x2), unsigned_abs-neg b.x2)

-- one of two tests holds, where the first one fails
pub second_way : {P Q : Type 0} (a b : Bool) → a ≡ false → (IsTrue a ↔ P) → (IsTrue b ↔ Q) → (IsTrue b ↔ (P ⊎ Q))
second_way {P} {Q} a b fails first second =
    let never : P → ⊥ = λ p. clash a fails (first.1 p) in
    (λ h. inr (second.0 h), λ h. ⊎_elim (λ p. absurd (never p)) (λ q. second.1 q) h)
  where
    clash : (a : Bool) → a ≡ false → a ≡ true → ⊥
    clash a f t = cc

-- a term's powers are at most the largest
pub reach_at : (ts : Terms) (k : ℕ) (t : Term) → slice_get ts k ≡ Some t → reach_of t.exponent ≤ largest_reach ts
reach_at [] k t h = cc
reach_at (u ∷ ts) zero t h =
    let same : reach_of u.exponent ≡ reach_of t.exponent = first u t h in
    omega (arith, same)
  where
    first : (u t : Term) → Some u ≡ Some t → reach_of u.exponent ≡ reach_of t.exponent
    first u t h = let same : u ≡ t = cc in ap (λ (t : Term). reach_of t.exponent) same
reach_at (u ∷ ts) (suc k) t h = omega (arith, reach_at ts k t h)

-- a coefficient that isn't 0 is that of a term with the exponent
pub record HasTerm (ts : Terms) (e : Monomial) : Type 0 where
  pub place : ℕ
  pub term : Term
  pub there : slice_get ts place ≡ Some term
  pub within : place < length ts
  pub exponent : term.exponent ≡ e

-- a term stands one place later behind one more
term_before : (t : Term) (ts : Terms) (e : Monomial) → HasTerm ts e → HasTerm (t ∷ ts) e
term_before t ts e h = record { place = suc h.place; term = h.term; there = h.there; within = omega (arith, h.within); exponent = h.exponent }

-- a term with another exponent adds nothing
no_part : (t : Term) (ts : Terms) (e : Monomial) → same_exponent t.exponent e ≡ false → coefficient_at ts e ≡ pos 0 → coefficient_at (t ∷ ts) e ≡ pos 0
no_part t ts e is none = rw is (omega (arith, ints))

-- one term more, which has the exponent or not
one_more : (t : Term) (ts : Terms) (e : Monomial) (b : Bool) → same_exponent t.exponent e ≡ b → (coefficient_at ts e ≡ pos 0) ⊎ HasTerm ts e → (coefficient_at (t ∷ ts) e ≡ pos 0) ⊎ HasTerm (t ∷ ts) e
one_more t ts e true is rest = inr (record { place = 0; term = t; there = refl; within = omega arith; exponent = (same_exponent-decides t.exponent e).0 is })
one_more t ts e false is rest = ⊎_elim (λ none. inl (no_part t ts e is none)) (λ some. inr (term_before t ts e some)) rest

-- a coefficient is 0, or some term has the exponent
coefficient_none_or_some : (ts : Terms) (e : Monomial) → (coefficient_at ts e ≡ pos 0) ⊎ HasTerm ts e
coefficient_none_or_some [] e = inl refl
coefficient_none_or_some (t ∷ ts) e = one_more t ts e (same_exponent t.exponent e) refl (coefficient_none_or_some ts e)

-- a count that isn't 0 is that of a term with the exponent or with half a circle more
counted_term : (ts : Terms) (e : Monomial) → count ts e ≢ pos 0 → HasTerm ts e ⊎ HasTerm ts (with_turns e 256)
counted_term ts e counted =
    ⊎_elim
    (λ none. ⊎_elim (λ none_half. absurd (counted (neither none none_half))) (λ some. inr some) (coefficient_none_or_some ts (with_turns e 256)))
    (λ some. inl some)
    (coefficient_none_or_some ts e)
  where
    neither : coefficient_at ts e ≡ pos 0 → coefficient_at ts (with_turns e 256) ≡ pos 0 → count ts e ≡ pos 0
    neither h k = omega (arith, ints)

-- the quotient by the quotient is the divisor
minus_twice : (e u : Monomial) → IsMonomial e → IsMonomial u → minus e (minus e u) ≡ u
minus_twice e u he hu = same_from_parts (minus e (minus e u)) u (omega arith) (omega (arith, ints)) (omega (arith, ints)) (omega (arith, ints))

-- the same, through half a circle more and back
minus_turned : (e u : Monomial) → IsMonomial e → IsMonomial u → with_turns (minus e (with_turns (minus e u) 256)) 256 ≡ u
minus_turned e u he hu = same_from_parts (with_turns (minus e (with_turns (minus e u) 256)) 256) u (omega arith) (omega (arith, ints)) (omega (arith, ints)) (omega (arith, ints))

-- some monomial takes the one to the other
abbrev pub Exists : (Monomial → Type 0) → Type 0
Exists takes = (u : Monomial) × IsMonomial u × takes u

-- neither monomial that takes the term at place k to the lead takes the one to the other
abbrev pub FailsAt : Monomial → (Monomial → Type 0) → Terms → ℕ → Type 0
FailsAt lead takes other k = (t : Term) → slice_get other k ≡ Some t → takes (minus lead t.exponent) ⊎ takes (with_turns (minus lead t.exponent) 256) → ⊥

-- where every candidate fails, no monomial does
pub no_phase : (lead : Monomial) (takes : Monomial → Type 0) (other : Terms) → IsMonomial lead → ((u : Monomial) → IsMonomial u → takes u → count other (minus lead u) ≢ pos 0) → ((k : ℕ) → k < length other → FailsAt lead takes other k) → Exists takes → ⊥
no_phase lead takes other proper counted fails phase =
    ⊎_elim
    (λ some.
    let same : minus lead some.term.exponent ≡ phase.0 = ap (minus lead) some.exponent ∙ minus_twice lead phase.0 proper phase.1 in
    fails some.place some.within some.term some.there (inl (subst takes (sym same) phase.2)))
    (λ some.
    let same : with_turns (minus lead some.term.exponent) 256 ≡ phase.0 = ap (λ (e : Monomial). with_turns (minus lead e) 256) some.exponent ∙ minus_turned lead phase.0 proper phase.1 in
    fails some.place some.within some.term some.there (inr (subst takes (sym same) phase.2)))
    (counted_term other (minus lead phase.0) (counted phase.0 phase.1 phase.2))

-- a candidate that passes is a phase
pub candidate_phase : (by : Monomial) (takes : Monomial → Type 0) → IsMonomial by → takes by ⊎ takes (with_turns by 256) → Exists takes
candidate_phase by takes proper h = ⊎_elim (λ same. (by, proper, same)) (λ same. (with_turns by 256, omega arith, same)) h

-- where both candidates of a term fail
pub candidate_fails : (lead by : Monomial) (takes : Monomial → Type 0) (other : Terms) (k : ℕ) (t : Term) (same : Bool) → by ≡ minus lead t.exponent → slice_get other k ≡ Some t → same ≡ false → (IsTrue same ↔ (takes by ⊎ takes (with_turns by 256))) → FailsAt lead takes other k
candidate_fails lead by takes other k t same by_is there fails told u also h =
    let same_term : t ≡ u = cc in
    let candidate : by ≡ minus lead u.exponent = by_is ∙ ap (λ (t : Term). minus lead t.exponent) same_term in
    clash same fails (told.1 (subst (λ (v : Monomial). takes v ⊎ takes (with_turns v 256)) (sym candidate) h))
  where
    clash : (b : Bool) → b ≡ false → b ≡ true → ⊥
    clash b h k = cc

-- the answer where it holds
pub answer_yes : {P : Type 0} → P → (IsTrue true ↔ P)
answer_yes h = (λ _. h, λ _. refl)

-- the answer where it doesn't
pub answer_no : {P : Type 0} → (P → ⊥) → (IsTrue false ↔ P)
answer_no h = (λ t. absurd (clash t), λ p. absurd (h p))
  where
    clash : false ≡ true → ⊥
    clash t = cc

-- a monomial that takes one matrix to another keeps which entries are zero
phase_alike : (d : ℕ) (x y : Entries) → HasPhase d x y → AreAlikeMatrices x y
phase_alike d x y phase j column i row = multiple_alike d phase.0 (entry_at x i j) (entry_at y i j) phase.1 (phase.2 j column i row)

-- so there is none where they differ in that
pub unlike : (d : ℕ) (x y : Entries) (alike : Bool) → alike ≡ false → (IsTrue alike ↔ AreAlikeMatrices x y) → (IsTrue false ↔ HasPhase d x y)
unlike d x y alike fails told = answer_no (λ phase. clash alike fails (told.1 (phase_alike d x y phase)))
  where
    clash : (b : Bool) → b ≡ false → b ≡ true → ⊥
    clash b h t = cc

-- two zero matrices are equal up to any phase
pub zero_phase : (d : ℕ) (x y : Entries) → AreAlikeMatrices x y → IsZeroMatrix x → HasPhase d x y
unfolding AreAlike
zero_phase d x y alike none = (
  zero_exponent,
  omega arith,
  λ j column i row. zero_multiple d zero_exponent (entry_at x i j) (entry_at y i j) (none j column i row) ((alike j column i row).0 (none j column i row)),
)

-- a phase takes the lead to an exponent that the other entry counts
lead_counted : (d : ℕ) (x y : Entries) (found : ℕ × ℕ × Monomial) (other : Terms) → IsPivot x found → IsTimesRoots d (entry_at y found.1 found.0) other → (u : Monomial) → IsMonomial u → IsMultipleMatrix d u x y → count other (minus found.2 u) ≢ pos 0
lead_counted d x y found other pivot times u proper is none =
    pivot.1.1.counted (is found.0 pivot.0 found.1 pivot.1.0 found.2 pivot.1.1.proper ∙ sym (times (minus found.2 u) (omega arith)) ∙ none)
