-- The gates on both sides, by the bits of the touched qubits: one gate more, and that they are those before and after the selected ones.
use Rattle.std.proofs.Common.{◌≡◌, ◌⊎◌, inl, inr, ℕ, zero, suc, ◌*◌, ◌%◌, ◌^◌, ◌<◌, ◌==◌, ◌||◌, Bool, true, false, List, [], ◌∷◌, ◌++◌, refl, sym, ap, ◌∙◌, arith, append_assoc}
use Rattle.std.specs.Prelude.{if◌then◌else◌, max, bit_or}
use Rattle.std.specs.Int.{bit_at}
use Rattle.std.proofs.lemmas.Bool.{cases_eq, eq-eqb, ne_eqb}
use Rattle.std.proofs.lemmas.Nat.{one_shl}
use Rattle.std.proofs.lemmas.Nat.Bits.{bit_at_or, bit_at-pow_same, bit_at-pow_other, bit_at-lt, bit_at-zero}
use Rattle.qz_circ.specs.declared.circuit.Inst.{Inst}
use Rattle.qz_circ.specs.Paths.{has_bit}
use Rattle.qz_rewrite.specs.Sides.{is_touched, touched_by, before_by, after_by}

-- ---- bits

-- the bits with one more set
pub bit_added : (bits t w : ℕ) → t < 64 → has_bit w (bit_or bits ((1 * 2 ^ t) % 2 ^ 64)) ≡ (has_bit w bits || t == w)
bit_added bits t w less = ap (λ x. has_bit w (bit_or bits x)) (one_shl t 64 less) ∙ ap (λ x. x == 1) (bit_at_or bits (2 ^ t) w) ∙ by (cases_eq t w)
  where
    set : (x : ℕ) → x < 2 → (max x 1 == 1) ≡ ((x == 1) || true)
    set zero h = refl
    set (suc zero) h = refl
    set (suc (suc x)) h = absurd (omega arith)

    unset : (x : ℕ) → x < 2 → (max x 0 == 1) ≡ ((x == 1) || false)
    unset zero h = refl
    unset (suc zero) h = refl
    unset (suc (suc x)) h = absurd (omega arith)

    by : (t ≡ w) ⊎ (t ≡ w → ⊥) → (max (bit_at bits w) (bit_at (2 ^ t) w) == 1) ≡ ((bit_at bits w == 1) || t == w)
    by (inl same) =
        ap (λ x. max (bit_at bits w) x == 1) (ap (λ s. bit_at (2 ^ s) w) same ∙ bit_at-pow_same w) ∙ set (bit_at bits w) (bit_at-lt bits w) ∙
        ap (λ b. (bit_at bits w == 1) || b) (sym (eq-eqb t w same))
    by (inr apart) =
        ap (λ x. max (bit_at bits w) x == 1) (bit_at-pow_other t w (λ h. apart (sym h))) ∙ unset (bit_at bits w) (bit_at-lt bits w) ∙
        ap (λ b. (bit_at bits w == 1) || b) (sym (ne_eqb t w apart))

-- no qubit is set in 0
pub no_bit : (w : ℕ) → has_bit w 0 ≡ false
no_bit w = ap (λ x. x == 1) (bit_at-zero w)

-- ---- one gate more

module _ (old new : ℕ → Bool) (g : Inst) (b : Bool) (rest : List (Bool × Inst)) where
  -- a selected one
  pub selected_before : b ≡ true → ((w : ℕ) → new w ≡ touched_by old g w) → before_by new rest ≡ before_by old ((b, g) ∷ rest)
  unfolding before_by
  selected_before is h = ap (λ t. before_by t rest) (λ d w. h w d) ∙ ap (λ c. before_by old ((c, g) ∷ rest)) (sym is)

  pub selected_after : b ≡ true → ((w : ℕ) → new w ≡ touched_by old g w) → after_by new rest ≡ after_by old ((b, g) ∷ rest)
  unfolding after_by
  selected_after is h = ap (λ t. after_by t rest) (λ d w. h w d) ∙ ap (λ c. after_by old ((c, g) ∷ rest)) (sym is)

  -- one with a touched qubit
  pub touched_before : b ≡ false → is_touched old g ≡ true → ((w : ℕ) → new w ≡ touched_by old g w) → before_by new rest ≡ before_by old ((b, g) ∷ rest)
  unfolding before_by
  touched_before is late h =
      ap (λ t. before_by t rest) (λ d w. h w d) ∙ ap (λ c. if c then before_by (touched_by old g) rest else g ∷ before_by old rest) (sym late) ∙ ap (λ c. before_by old ((c, g) ∷ rest)) (sym is)

  pub touched_after : b ≡ false → is_touched old g ≡ true → ((w : ℕ) → new w ≡ touched_by old g w) → g ∷ after_by new rest ≡ after_by old ((b, g) ∷ rest)
  unfolding after_by
  touched_after is late h =
      ap (λ t. g ∷ after_by t rest) (λ d w. h w d) ∙ ap (λ c. if c then g ∷ after_by (touched_by old g) rest else after_by old rest) (sym late) ∙ ap (λ c. after_by old ((c, g) ∷ rest)) (sym is)

  -- one without
  pub free_before : b ≡ false → is_touched old g ≡ false → g ∷ before_by old rest ≡ before_by old ((b, g) ∷ rest)
  unfolding before_by
  free_before is early = ap (λ c. if c then before_by (touched_by old g) rest else g ∷ before_by old rest) (sym early) ∙ ap (λ c. before_by old ((c, g) ∷ rest)) (sym is)

  pub free_after : b ≡ false → is_touched old g ≡ false → after_by old rest ≡ after_by old ((b, g) ∷ rest)
  unfolding after_by
  free_after is early = ap (λ c. if c then g ∷ after_by (touched_by old g) rest else after_by old rest) (sym early) ∙ ap (λ c. after_by old ((c, g) ∷ rest)) (sym is)

-- a list with one more at its end
pub one_pushed : {A : Type 0} (xs : List A) (x : A) (more whole : List A) → x ∷ more ≡ whole → (xs ++ x ∷ []) ++ more ≡ xs ++ whole
one_pushed xs x more whole h = append_assoc xs (x ∷ []) more ∙ ap (λ ys. xs ++ ys) h
