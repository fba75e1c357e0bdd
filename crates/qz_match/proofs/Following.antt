-- Where words lead: to the gates of each match, and alike for rows that begin alike.
use Rattle.std.proofs.Common.{◌≡◌, ◌≢◌, ℕ, zero, suc, ◌+◌, ◌<◌, ◌≤◌, ◌&&◌, Bool, true, false, if◌then◌else◌, List, [], ◌∷◌, length, map, get_or, take, nat_lt, ltb, lt-ltb, Option, Some, None, refl, sym, ap, ◌∙◌, subst, arith, ◌⊎◌, inl, inr}
use Rattle.std.specs.Prelude.{slice_set}
use Rattle.std.specs.List.{AllByRecursion}
use Rattle.std.proofs.lemmas.Bool.{ltb-true, cases_eq}
use Rattle.std.proofs.lemmas.List.{get_or-set_same, get_or-set_other, get_or-take, get_or-map, length-map}
use Rattle.qz_circ.specs.Circuit.{Circuit, IsOn}
use Rattle.qz_circ.specs.Places.{and_then}
use Rattle.qz_circ.specs.ProgramCircuits.{ProgramCircuit, IsProgramGate}
use Rattle.qz_match.specs.declared.neighbours.Link.{Link}
use Rattle.qz_match.specs.declared.walk.Step.{Step}
use Rattle.qz_match.specs.declared.words.Way.{Way}
use Rattle.qz_match.specs.declared.words.Way.TheVariants.{Here, Before, Behind}
use Rattle.qz_match.specs.declared.words.Word.{Word}
use Rattle.qz_match.specs.Neighbours.{gate_at, beside, AreLinksOf}
use Rattle.qz_match.specs.Starts.{is_alike, Matches, starting}
use Rattle.qz_match.specs.Walks.{rule_gate_at, IsWalk}
use Rattle.qz_match.specs.Words.{word_at, walk_step, order_of, operand_of, IsFirstWord, IsWordOf, AreWordsOf, start_at, way_along, way_to, passed, step_to, Leads, LeadsNowhere, AreReached}

-- ---- what a word sees

-- a word sees only the positions that are found before it
pub step_same : (c : ProgramCircuit) (links : List Link) (p : ℕ) (f g : List ℕ) (k : ℕ) (w : Word) → ((j : ℕ) → j < k → get_or f j 0 ≡ get_or g j 0) → step_to c links p f k w ≡ step_to c links p g k w
step_same c links p f g k w same = ap (λ s. and_then (way_along links p s (operand_of w) w.way) (passed c w)) (by (ltb w.from k) refl)
  where
    by : (b : Bool) → ltb w.from k ≡ b → (if b then Some (get_or f w.from 0) else None) ≡ (if b then Some (get_or g w.from 0) else None)
    by true e = ap Some (same w.from (ltb-true w.from k e))
    by false e = refl

-- one more position is found
pub leads_more : (c : ProgramCircuit) (links : List Link) (p : ℕ) (ws : List Word) (k : ℕ) (found : List ℕ) (next : ℕ) → k < length found → Leads c links p ws k found → Some next ≡ step_to c links p found k (word_at ws k) → Leads c links p ws (k + 1) (slice_set found k next)
leads_more c links p ws k found next room h e = λ j l. by j l (cases_eq j k)
  where
    kept : (n j : ℕ) → n ≤ k → j < n → get_or (slice_set found k next) j 0 ≡ get_or found j 0
    kept n j few l = let other : j ≢ k = omega arith in get_or-set_other found k j next 0 other

    by : (j : ℕ) → j < k + 1 → (j ≡ k) ⊎ (j ≢ k) → step_to c links p (slice_set found k next) j (word_at ws j) ≡ Some (get_or (slice_set found k next) j 0)
    by j l (inl at) = subst (λ i. step_to c links p (slice_set found k next) i (word_at ws i) ≡ Some (get_or (slice_set found k next) i 0)) (sym at)
        (step_same c links p (slice_set found k next) found k (word_at ws k) (λ i m. kept k i (omega arith) m) ∙ sym e ∙ ap Some (sym (get_or-set_same found k next 0 room)))
    by j l (inr other) =
        step_same c links p (slice_set found k next) found j (word_at ws j) (λ i m. kept j i (omega arith) m) ∙ h j (omega arith) ∙ ap Some (sym (get_or-set_other found k j next 0 other))

-- words that begin alike lead alike
pub word_same : (xs ys : List Word) (k j : ℕ) → take k xs ≡ take k ys → j < k → word_at xs j ≡ word_at ys j
word_same xs ys k j same l = sym (get_or-take k xs j _ l) ∙ ap (λ ws. word_at ws j) same ∙ get_or-take k ys j _ l

pub leads_alike : (c : ProgramCircuit) (links : List Link) (p : ℕ) (xs ys : List Word) (k n : ℕ) (found : List ℕ) → take k xs ≡ take k ys → n ≤ k → Leads c links p xs n found → Leads c links p ys n found
leads_alike c links p xs ys k n found same few h = λ j l. ap (step_to c links p found j) (sym (word_same xs ys k j same (omega arith))) ∙ h j l

pub leads_fewer : (c : ProgramCircuit) (links : List Link) (p : ℕ) (ws : List Word) (k n : ℕ) (found : List ℕ) → n ≤ k → Leads c links p ws k found → Leads c links p ws n found
leads_fewer c links p ws k n found few h = λ j l. h j (omega arith)

-- ---- words of a walk
