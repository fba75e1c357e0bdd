-- Flags of qubits while gates are gathered.
use Rattle.std.proofs.Common.{◌≡◌, ℕ, zero, suc, ◌||◌, Bool, true, false, if◌then◌else◌, List, [], ◌∷◌, ◌++◌, get_or, replicate, refl, sym, ap, ◌∙◌}
use Rattle.std.specs.List.{list_any}
use Rattle.std.proofs.lemmas.List.Folds.{list_any-append}
use Rattle.qz_circ.specs.declared.circuit.Inst.{Inst}
use Rattle.qz_circ.specs.Gathering.{qubits_of, is_on, meets, is_after, gathers}
use Rattle.qz_circ.specs.ProgramCircuits.{ProgramCircuit}
use Rattle.qz_match.specs.Flags.{AreFlagsOf, is_flagged, Passes}

-- some element passes one of two tests
any_or : {A : Type 0} (g h : A → Bool) (xs : List A) → list_any (λ x. g x || h x) xs ≡ (list_any g xs || list_any h xs)
any_or g h [] = refl
any_or g h (x ∷ xs) = ap (λ b. (g x || h x) || b) (any_or g h xs) ∙ regroup (g x) (h x) (list_any g xs) (list_any h xs)
  where
    regroup : (a b c d : Bool) → ((a || b) || (c || d)) ≡ ((a || c) || (b || d))
    regroup true b c d = refl
    regroup false true true d = refl
    regroup false true false d = refl
    regroup false false c d = refl

none_pass : {A : Type 0} (xs : List A) → list_any (λ x. false) xs ≡ false
none_pass [] = refl
none_pass (x ∷ xs) = none_pass xs

-- some gate is on some of the qubits: one may ask by gates or by qubits
by_qubits : (ws : List ℕ) (gates : ProgramCircuit) → list_any (λ f. list_any (λ w. is_on w f) ws) gates ≡ list_any (λ w. list_any (is_on w) gates) ws
by_qubits [] gates = none_pass gates
by_qubits (w ∷ ws) gates = any_or (is_on w) (λ f. list_any (λ w. is_on w f) ws) gates ∙ ap (λ b. list_any (is_on w) gates || b) (by_qubits ws gates)

any_same : (g h : ℕ → Bool) (ws : List ℕ) → ((w : ℕ) → g w ≡ h w) → list_any g ws ≡ list_any h ws
any_same g h [] same = refl
any_same g h (w ∷ ws) same = rw (same w, any_same g h ws same)

pub flagged_meets : (flags : List Bool) (gates : ProgramCircuit) (g : Inst) → AreFlagsOf flags gates → is_flagged flags g ≡ meets g gates
flagged_meets flags gates g h = any_same (λ w. get_or flags w false) (λ w. list_any (is_on w) gates) (qubits_of g) h.each ∙ sym (by_qubits (qubits_of g) gates)

pub flags_more : (old next : List Bool) (gates : ProgramCircuit) (g : Inst) → AreFlagsOf old gates → ((w : ℕ) → get_or next w false ≡ (if is_on w g then true else get_or old w false)) → AreFlagsOf next (gates ++ g ∷ [])
flags_more old next gates g h set = record { each = λ w. set w ∙ by w (is_on w g) ∙ sym (list_any-append (is_on w) gates (g ∷ [])) }
  where
    last : (w : ℕ) (b : Bool) → (if b then true else get_or old w false) ≡ (list_any (is_on w) gates || (b || false))
    last w true = true_last (list_any (is_on w) gates)
      where
        true_last : (b : Bool) → true ≡ (b || true)
        true_last true = refl
        true_last false = refl
    last w false = h.each w ∙ false_last (list_any (is_on w) gates)
      where
        false_last : (b : Bool) → b ≡ (b || false)
        false_last true = refl
        false_last false = refl

    by : (w : ℕ) (b : Bool) → (if is_on w g then true else get_or old w false) ≡ (list_any (is_on w) gates || (is_on w g || false))
    by w b = last w (is_on w g)

pub no_flags : (n : ℕ) → AreFlagsOf (replicate n false) []
no_flags n = record { each = none n }
  where
    none : (n w : ℕ) → get_or (replicate n false) w false ≡ false
    none zero w = refl
    none (suc n) zero = refl
    none (suc n) (suc w) = none n w

module _ (g : Inst) (xs ys : ProgramCircuit) (chosen after : List Bool) (c : AreFlagsOf chosen xs) (a : AreFlagsOf after ys) where
  -- a selected gate that meets one that comes after
  pub selected_fails : is_flagged after g ≡ true → Passes true g xs ys chosen after false
  unfolding gathers
  selected_fails flagged = record { chosen_next = xs; after_next = ys; chosen_flagged = c; after_flagged = a; same = λ rest. rw (sym (flagged_meets after ys g a) ∙ flagged) }

  pub selected_passes : (next : List Bool) → is_flagged after g ≡ false → ((w : ℕ) → get_or next w false ≡ (if is_on w g then true else get_or chosen w false)) → Passes true g xs ys next after true
  unfolding gathers
  selected_passes next flagged set = record { chosen_next = xs ++ g ∷ []; after_next = ys; chosen_flagged = flags_more chosen next xs g c set; after_flagged = a; same = λ rest. rw (sym (flagged_meets after ys g a) ∙ flagged) }

  late_is : (b : Bool) → (is_flagged chosen g || is_flagged after g) ≡ b → is_after xs ys g ≡ b
  late_is b flagged = sym (ap (λ m. m || meets g ys) (flagged_meets chosen xs g c)) ∙ sym (ap (λ m. is_flagged chosen g || m) (flagged_meets after ys g a)) ∙ flagged

  pub other_comes : (next : List Bool) → (is_flagged chosen g || is_flagged after g) ≡ true → ((w : ℕ) → get_or next w false ≡ (if is_on w g then true else get_or after w false)) → Passes false g xs ys chosen next true
  unfolding gathers
  other_comes next late set = record { chosen_next = xs; after_next = ys ++ g ∷ []; chosen_flagged = c; after_flagged = flags_more after next ys g a set; same = λ rest. rw (late_is true late) }

  pub other_stays : (is_flagged chosen g || is_flagged after g) ≡ false → Passes false g xs ys chosen after true
  unfolding gathers
  other_stays early = record { chosen_next = xs; after_next = ys; chosen_flagged = c; after_flagged = a; same = λ rest. rw (late_is false early) }
