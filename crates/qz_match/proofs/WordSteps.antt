-- The words of a walk, one step after the other.
use Rattle.std.proofs.Common.{◌≡◌, ◌≢◌, ℕ, zero, suc, ◌+◌, ◌-◌, ◌<◌, ◌≤◌, ◌==◌, ◌||◌, Bool, true, false, if◌then◌else◌, List, [], ◌∷◌, length, map, get_or, take, refl, sym, ap, ◌∙◌, subst, arith, ◌⊎◌, inl, inr}
use Rattle.std.specs.Prelude.{slice_set}
use Rattle.std.proofs.lemmas.Bool.{cases_eq, ne_eqb}
use Rattle.std.proofs.lemmas.List.{get_or-set_same, get_or-set_other, get_or-take, length-take-le, take_more}
use Rattle.qz_circ.specs.Circuit.{Circuit}
use Rattle.qz_circ.specs.Places.{is_listed}
use Rattle.qz_match.specs.declared.walk.Step.{Step}
use Rattle.qz_match.specs.declared.words.Word.{Word}
use Rattle.qz_match.specs.Walks.{reached}
use Rattle.qz_match.specs.Words.{word_at, walk_step, IsFirstWord, IsWordOf, AreWordsOf}
use Rattle.qz_match.proofs.Walks.{reached-push}

-- a gate to which the last of some steps doesn't lead is reached before it
pub listed_before : (steps : List Step) (i gate : ℕ) → 0 < i → i ≤ length steps → is_listed (reached (0 ∷ []) (take i steps)) gate ≡ true → (walk_step steps (i - 1)).to ≢ gate → is_listed (reached (0 ∷ []) (take (i - 1) steps)) gate ≡ true
listed_before steps i gate some within listed other =
    let one : i ≡ (i - 1) + 1 = omega arith in
    let parts = ap (λ n. is_listed (reached (0 ∷ []) (take n steps)) gate) one ∙ ap (λ ss. is_listed (reached (0 ∷ []) ss) gate) (take_more steps (i - 1) _ (omega arith)) ∙ ap (λ seen. is_listed seen gate) (reached-push (0 ∷ []) (take (i - 1) steps) (walk_step steps (i - 1))) in
    let now : ((walk_step steps (i - 1)).to == gate || is_listed (reached (0 ∷ []) (take (i - 1) steps)) gate) ≡ true = sym parts ∙ listed in
    ap (λ b. b || is_listed (reached (0 ∷ []) (take (i - 1) steps)) gate) (sym (ne_eqb (walk_step steps (i - 1)).to gate other)) ∙ now

-- the number of an operand, of which there are two
pub second_is : (o : ℕ) → o < 2 → (if o == 1 then 1 else 0) ≡ o
second_is zero l = refl
second_is (suc zero) l = refl
second_is (suc (suc o)) l = absurd (omega arith)

module _ (left : Circuit) (steps : List Step) (list : List Word) (size : length list ≡ 6) where
  -- one more word
  pub words_more : (k : ℕ) (w : Word) → k + 1 < 6 → IsWordOf left steps k w → IsFirstWord left (word_at list 0) × ((j : ℕ) → j < k → IsWordOf left steps j (word_at list (suc j)))
      → IsFirstWord left (word_at (slice_set list (k + 1) w) 0) × ((j : ℕ) → j < k + 1 → IsWordOf left steps j (word_at (slice_set list (k + 1) w) (suc j)))
  words_more k w room new h =
      let other : 0 ≢ k + 1 = omega arith in
      (subst (IsFirstWord left) (sym (get_or-set_other list (k + 1) 0 w _ other)) h.0, λ j l. by j l (cases_eq j k))
    where
      by : (j : ℕ) → j < k + 1 → (j ≡ k) ⊎ (j ≢ k) → IsWordOf left steps j (word_at (slice_set list (k + 1) w) (suc j))
      by j l (inl e) =
          let at : suc j ≡ k + 1 = omega arith in
          subst (λ i. IsWordOf left steps i (word_at (slice_set list (k + 1) w) (suc j))) (sym e)
          (subst (IsWordOf left steps k) (sym (ap (word_at (slice_set list (k + 1) w)) at ∙ get_or-set_same list (k + 1) w _ (omega arith))) new)
      by j l (inr other) =
          let apart : suc j ≢ k + 1 = omega arith in
          subst (IsWordOf left steps j) (sym (get_or-set_other list (k + 1) (suc j) w _ apart)) (h.1 j (omega arith))

  -- all words
  pub words_all : (k : ℕ) → length steps ≡ k → k ≤ 5 → IsFirstWord left (word_at list 0) × ((j : ℕ) → j < k → IsWordOf left steps j (word_at list (suc j))) → AreWordsOf left steps (take (k + 1) list)
  words_all k all few h =
      record {
        size = length-take-le (k + 1) list (omega arith) ∙ (let same : k + 1 ≡ suc (length steps) = omega arith in same);
        first = subst (IsFirstWord left) (sym (get_or-take (k + 1) list 0 _ (omega arith))) h.0;
        each = λ j l. subst (IsWordOf left steps j) (sym (get_or-take (k + 1) list (suc j) _ (omega arith))) (h.1 j (omega arith));
      }
