-- The words of a left side lead to each of its matches.
use Rattle.std.proofs.Common.{◌≡◌, ◌≢◌, ℕ, zero, suc, ◌+◌, ◌<◌, ◌≤◌, ◌&&◌, Bool, true, false, if◌then◌else◌, List, [], ◌∷◌, length, map, get_or, nat_lt, ltb, lt-ltb, Option, Some, None, refl, sym, ap, ◌∙◌, subst, arith, ◌⊎◌, inl, inr}
use Rattle.std.specs.List.{AllByRecursion}
use Rattle.std.proofs.lemmas.Bool.{cases_eq}
use Rattle.std.proofs.lemmas.List.{get_or-map}
use Rattle.qz_circ.specs.Circuit.{Circuit, IsOn}
use Rattle.qz_circ.specs.Places.{and_then}
use Rattle.qz_circ.specs.ProgramCircuits.{ProgramCircuit, IsProgramGate}
use Rattle.qz_match.specs.declared.neighbours.Link.{Link}
use Rattle.qz_match.specs.declared.walk.Step.{Step}
use Rattle.qz_match.specs.declared.words.Way.{Way}
use Rattle.qz_match.specs.declared.words.Way.TheVariants.{Here, Before, Behind}
use Rattle.qz_match.specs.declared.words.Word.{Word}
use Rattle.qz_match.specs.Neighbours.{gate_at, beside, AreLinksOf}
use Rattle.qz_match.specs.Starts.{is_alike, Matches, starting}
use Rattle.qz_match.specs.Walks.{rule_gate_at, IsWalk}
use Rattle.qz_match.specs.Words.{word_at, walk_step, order_of, operand_of, AreWordsOf, start_at, way_along, passed, step_to, Leads, LeadsNowhere, AreReached}
use Rattle.qz_match.proofs.Candidates.{steps_small, match_beside, match_alike}
use Rattle.qz_match.proofs.Starts.{starting_none}

-- a gate that is there and like the word's own passes
passed_so : (c : ProgramCircuit) (w : Word) (x : ℕ) → x < length c → is_alike w.gate (gate_at c x) ≡ true → passed c w x ≡ Some x
passed_so c w x within alike =
    let inside : ltb x (length c) ≡ true = lt-ltb x (length c) within in
    rw (inside, alike)

-- the way of a word that isn't the first goes along a link
way_beside : (links : List Link) (p q o : ℕ) (way : Way) (forward : Bool) → way ≡ (if forward then Behind else Before) → way_along links p (Some q) o way ≡ beside links q o forward
way_beside links p q o way true e = ap (way_along links p (Some q) o) e
way_beside links p q o way false e = ap (way_along links p (Some q) o) e

module _ (left : Circuit) (c : ProgramCircuit) (p : ℕ) (steps : List Step) (words : List Word) (links : List Link) (short : length left ≤ 6) (some : 0 < length left) (on : IsOn 3 3 left) (lawful : AllByRecursion (IsProgramGate 64) c) (walk : IsWalk left steps) (linked : AreLinksOf c links) (are : AreWordsOf left steps words) where
  module _ (ps : List ℕ) (m : Matches left c p ps) where
    -- where the gate with this number in the order of the walk stands
    abbrev stands : ℕ → ℕ
    stands k = get_or (p ∷ ps) (get_or (order_of steps) k 0) 0

    -- from where the gates of the match stand the next word leads to the next of them
    word_lands : (found : List ℕ) (j : ℕ) → j < length words → ((i : ℕ) → i < j → get_or found i 0 ≡ stands i) → step_to c links p found j (word_at words j) ≡ Some (stands j)
    word_lands found zero l same =
        let w = word_at words 0 in
        let here = match_alike left c p on lawful ps m 0 some in
        ap (λ way. and_then (way_along links p (start_at found 0 w.from) (operand_of w) way) (passed c w)) are.first.way ∙ passed_so c w p here.0 (are.first.alike (gate_at c p) ∙ here.1)
    word_lands found (suc k) l same =
        let w = word_at words (suc k) in
        let step = walk_step steps k in
        let size = are.size in
        let less : k < length steps = omega arith in
        let word = are.each k less in
        let early : ltb w.from (suc k) ≡ true = lt-ltb w.from (suc k) (let low = word.early in omega arith) in
        let start : start_at found (suc k) w.from ≡ Some (get_or (p ∷ ps) step.from 0) = (λ i. if early i then Some (get_or found w.from 0) else None) ∙ ap Some (same w.from (let low = word.early in omega arith) ∙ ap (λ x. get_or (p ∷ ps) x 0) word.from) in
        let small = steps_small left steps walk short (record { from = 0; operand = 0; forward = false; to = 0 }) k less in
        let there = match_alike left c p on lawful ps m step.to small.inside in
        let at : stands (suc k) ≡ get_or (p ∷ ps) step.to 0 = ap (λ x. get_or (p ∷ ps) x 0) (get_or-map (λ (s : Step). s.to) steps k (record { from = 0; operand = 0; forward = false; to = 0 }) 0 less) in
        (λ i. and_then (way_along links p (start i) (word.operand i) w.way) (passed c w))
        ∙ ap (λ o. and_then o (passed c w)) (way_beside links p (get_or (p ∷ ps) step.from 0) step.operand w.way step.forward word.way ∙ match_beside left c p steps links k short on lawful walk linked (record { from = 0; operand = 0; forward = false; to = 0 }) less ps m)
        ∙ passed_so c w (get_or (p ∷ ps) step.to 0) there.0 (word.alike (gate_at c (get_or (p ∷ ps) step.to 0)) ∙ there.1)
        ∙ ap Some (sym at)

    -- so words that lead somewhere lead there
    words_land : (found : List ℕ) (n : ℕ) → n ≤ length words → Leads c links p words n found → (j : ℕ) → j < n → get_or found j 0 ≡ stands j
    words_land found zero few h j l = absurd (omega arith)
    words_land found (suc n) few h j l = by (words_land found n (omega arith) (λ i k. h i (omega arith))) (cases_eq j n)
      where
        by : ((i : ℕ) → i < n → get_or found i 0 ≡ stands i) → (j ≡ n) ⊎ (j ≢ n) → get_or found j 0 ≡ stands j
        by before (inl e) =
            let here : Some (get_or found n 0) ≡ Some (stands n) = sym (h n (omega arith)) ∙ word_lands found n (omega arith) before in
            let same : get_or found n 0 ≡ stands n = cc in
            ap (λ i. get_or found i 0) e ∙ same ∙ ap stands (sym e)
        by before (inr other) = before j (omega arith)

    no_match : LeadsNowhere c links p words → ⊥
    no_match h =
        let within = h.within in
        let lands = word_lands h.found h.at h.within (words_land h.found h.at (omega arith) h.leads) in
        let wrong : None ≡ Some (stands h.at) = sym h.stops ∙ lands in
        cc

  -- words that lead somewhere lead to all matches
  pub words_reach : (found : List ℕ) → Leads c links p words (length words) found → AreReached left steps c p found
  words_reach found h = λ ps m k l. words_land ps m found (length words) (omega arith) h k (let size = are.size in omega arith)

  -- where they lead nowhere, no place begins
  pub nowhere_begins : p < length c → LeadsNowhere c links p words → starting left c p ≡ []
  nowhere_begins within h = starting_none left c p some within (λ ps m. no_match ps m h)

-- the position that is reached after a step is where it leads in each match
pub reached_step : (left : Circuit) (c : ProgramCircuit) (p : ℕ) (steps : List Step) (found : List ℕ) (k : ℕ) → AreReached left steps c p found → k < length steps → (ps : List ℕ) → Matches left c p ps → get_or found (k + 1) 0 ≡ get_or (p ∷ ps) (walk_step steps k).to 0
reached_step left c p steps found k h less ps m =
    let next : k + 1 ≡ suc k = omega arith in
    ap (λ i. get_or found i 0) next ∙ h ps m (suc k) (omega arith) ∙ ap (λ x. get_or (p ∷ ps) x 0) (get_or-map (λ (s : Step). s.to) steps k (record { from = 0; operand = 0; forward = false; to = 0 }) 0 less)
