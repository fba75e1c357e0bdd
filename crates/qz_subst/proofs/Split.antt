-- States whose bits at some qubits are taken out: the small state that these bits make, and what is left without them.
use Rattle.std.proofs.Common.{◌≡◌, ◌≢◌, ℕ, zero, suc, ◌^◌, ◌<◌, ◌==◌, ◌&&◌, Bool, true, false, not, ◌⊎◌, inl, inr, refl, sym, ap, ◌∙◌, arith, true≢false}
use Rattle.std.specs.Prelude.{if◌then◌else◌}
use Rattle.std.proofs.Math.Nat.{pow-suc}
use Rattle.std.proofs.lemmas.Nat.Bits.{bit_at_above}
use Rattle.std.proofs.lemmas.Bool.{cases_eq}
use Rattle.std.proofs.lemmas.Bool.Decides.{Decides-eqb, Decides-and, Decides-like, same_from_decides}
use Rattle.qz_circ.specs.Paths.{has_bit, flipped_state}
use Rattle.qz_circ.proofs.Flips.{flipped_twice, flips_swap, flip_below, bit_flipped, bit_kept}

-- the bits of the state at the qubits f 0 to f (n - 1), as a state of n qubits
abbrev pub small : (ℕ → ℕ) → ℕ → ℕ → ℕ
small f zero i = 0
small f (suc n) i = if has_bit (f n) i then flipped_state n (small f n i) else small f n i

-- the state with this qubit 0
abbrev pub cleared : ℕ → ℕ → ℕ
cleared t i = if has_bit t i then flipped_state t i else i

-- the state with all those qubits 0
abbrev pub rest : (ℕ → ℕ) → ℕ → ℕ → ℕ
rest f zero i = i
rest f (suc n) i = cleared (f n) (rest f n i)

-- those qubits are different
abbrev pub AreDifferent : (ℕ → ℕ) → ℕ → Type 0
AreDifferent f n = (s t : ℕ) → s < n → t < n → f s ≡ f t → s ≡ t

-- the first ones of different qubits are different
fewer : (f : ℕ → ℕ) (n : ℕ) → AreDifferent f (suc n) → AreDifferent f n
fewer f n different s t hs ht = different s t (omega arith) (omega arith)

-- the last one is none of the others
last_other : (f : ℕ → ℕ) (n : ℕ) → AreDifferent f (suc n) → (t : ℕ) → t < n → f n ≢ f t
last_other f n different t ht same = by (different n t (omega arith) (omega arith) same)
  where
    by : n ≡ t → ⊥
    by h = omega arith

-- a number below one more is below or the last
below_or_last : (s n : ℕ) → s < suc n → (s < n) ⊎ (s ≡ n)
below_or_last s n h = by (cases_eq s n)
  where
    by : (s ≡ n) ⊎ (s ≡ n → ⊥) → (s < n) ⊎ (s ≡ n)
    by (inl same) = inr same
    by (inr apart) = inl (omega arith)

-- ---- the small state

-- it is one of n qubits
pub small_below : (f : ℕ → ℕ) (n i : ℕ) → small f n i < 2 ^ n
small_below f zero i = omega arith
small_below f (suc n) i = let less = small_below f n i in by (has_bit (f n) i) (omega (arith, pow-suc 2 n))
  where
    by : (b : Bool) → small f n i < 2 ^ suc n → (if b then flipped_state n (small f n i) else small f n i) < 2 ^ suc n
    by true wider = flip_below (suc n) n (small f n i) (omega arith) wider
    by false wider = wider

-- its bits are those
pub small_bit : (f : ℕ → ℕ) (n s i : ℕ) → s < n → has_bit s (small f n i) ≡ has_bit (f s) i
small_bit f zero s i less = absurd (omega arith)
small_bit f (suc n) s i less = by (below_or_last s n less) (small_bit f n s i)
  where
    none : has_bit n (small f n i) ≡ false
    none = ap (λ x. x == 1) (bit_at_above (small f n i) n n (small_below f n i) (omega arith))

    kept : (b : Bool) → s < n → has_bit s (if b then flipped_state n (small f n i) else small f n i) ≡ has_bit s (small f n i)
    kept true below_n = bit_kept s n (small f n i) (omega arith)
    kept false below_n = refl

    last : (b : Bool) → has_bit n (if b then flipped_state n (small f n i) else small f n i) ≡ b
    last true = bit_flipped n (small f n i) ∙ ap not none
    last false = none

    by : (s < n) ⊎ (s ≡ n) → (s < n → has_bit s (small f n i) ≡ has_bit (f s) i) → has_bit s (if has_bit (f n) i then flipped_state n (small f n i) else small f n i) ≡ has_bit (f s) i
    by (inl below_n) before = kept (has_bit (f n) i) below_n ∙ before below_n
    by (inr same) before = ap (λ t. has_bit t (if has_bit (f n) i then flipped_state n (small f n i) else small f n i)) same ∙ last (has_bit (f n) i) ∙ ap (λ t. has_bit (f t) i) (sym same)

-- a flip of another qubit keeps it
small_other : (f : ℕ → ℕ) (n w i : ℕ) → ((t : ℕ) → t < n → f t ≢ w) → small f n (flipped_state w i) ≡ small f n i
small_other f zero w i others = refl
small_other f (suc n) w i others =
    let before = small_other f n w i (λ t ht. others t (omega arith)) in
    λ d. if bit_kept (f n) w i (others n (omega arith)) d then flipped_state n (before d) else before d

-- a flip of one of the qubits flips its bit
pub small_flip : (f : ℕ → ℕ) (n s i : ℕ) → AreDifferent f n → s < n → small f n (flipped_state (f s) i) ≡ flipped_state s (small f n i)
small_flip f zero s i different less = absurd (omega arith)
small_flip f (suc n) s i different less = by (below_or_last s n less) (small_flip f n s i (fewer f n different))
  where
    kept : (b : Bool) → (if b then flipped_state n (flipped_state s (small f n i)) else flipped_state s (small f n i)) ≡ flipped_state s (if b then flipped_state n (small f n i) else small f n i)
    kept true = flips_swap n s (small f n i)
    kept false = refl

    last : (b : Bool) → (if not b then flipped_state n (small f n i) else small f n i) ≡ flipped_state n (if b then flipped_state n (small f n i) else small f n i)
    last true = sym (flipped_twice n (small f n i))
    last false = refl

    by : (s < n) ⊎ (s ≡ n) → (s < n → small f n (flipped_state (f s) i) ≡ flipped_state s (small f n i)) →
        (if has_bit (f n) (flipped_state (f s) i) then flipped_state n (small f n (flipped_state (f s) i)) else small f n (flipped_state (f s) i)) ≡ flipped_state s (if has_bit (f n) i then flipped_state n (small f n i) else small f n i)
    by (inl below_n) before =
        (λ d. if bit_kept (f n) (f s) i (last_other f n different s below_n) d then flipped_state n (before below_n d) else before below_n d) ∙ kept (has_bit (f n) i)
    by (inr same) before =
        ap (λ t. if has_bit (f n) (flipped_state (f t) i) then flipped_state n (small f n (flipped_state (f t) i)) else small f n (flipped_state (f t) i)) same ∙
        (λ d. if bit_flipped (f n) i d then flipped_state n (others d) else others d) ∙
        last (has_bit (f n) i) ∙ ap (λ t. flipped_state t (if has_bit (f n) i then flipped_state n (small f n i) else small f n i)) (sym same)
      where
        others : small f n (flipped_state (f n) i) ≡ small f n i
        others = small_other f n (f n) i (λ t ht h. last_other f n different t ht (sym h))

-- ---- what is left

-- a qubit is cleared before or after a flip of another
cleared_flip : (t w i : ℕ) → t ≢ w → cleared t (flipped_state w i) ≡ flipped_state w (cleared t i)
cleared_flip t w i apart = ap (λ b. if b then flipped_state t (flipped_state w i) else flipped_state w i) (bit_kept t w i apart) ∙ by (has_bit t i)
  where
    by : (b : Bool) → (if b then flipped_state t (flipped_state w i) else flipped_state w i) ≡ flipped_state w (if b then flipped_state t i else i)
    by true = flips_swap t w i
    by false = refl

-- a flip of a qubit that is cleared does nothing
cleared_same : (t i : ℕ) → cleared t (flipped_state t i) ≡ cleared t i
cleared_same t i = ap (λ b. if b then flipped_state t (flipped_state t i) else flipped_state t i) (bit_flipped t i) ∙ by (has_bit t i)
  where
    by : (b : Bool) → (if not b then flipped_state t (flipped_state t i) else flipped_state t i) ≡ (if b then flipped_state t i else i)
    by true = refl
    by false = flipped_twice t i

-- a flip of another qubit stays
rest_other : (f : ℕ → ℕ) (n w i : ℕ) → ((t : ℕ) → t < n → f t ≢ w) → rest f n (flipped_state w i) ≡ flipped_state w (rest f n i)
rest_other f zero w i others = refl
rest_other f (suc n) w i others =
    ap (cleared (f n)) (rest_other f n w i (λ t ht. others t (omega arith))) ∙ cleared_flip (f n) w (rest f n i) (others n (omega arith))

-- a flip of one of the qubits changes nothing
pub rest_flip : (f : ℕ → ℕ) (n s i : ℕ) → AreDifferent f n → s < n → rest f n (flipped_state (f s) i) ≡ rest f n i
rest_flip f zero s i different less = absurd (omega arith)
rest_flip f (suc n) s i different less = by (below_or_last s n less) (rest_flip f n s i (fewer f n different))
  where
    by : (s < n) ⊎ (s ≡ n) → (s < n → rest f n (flipped_state (f s) i) ≡ rest f n i) → cleared (f n) (rest f n (flipped_state (f s) i)) ≡ cleared (f n) (rest f n i)
    by (inl below_n) before = ap (cleared (f n)) (before below_n)
    by (inr same) before =
        ap (λ t. cleared (f n) (rest f n (flipped_state (f t) i))) same ∙
        ap (cleared (f n)) (rest_other f n (f n) i (λ t ht h. last_other f n different t ht (sym h))) ∙ cleared_same (f n) (rest f n i)

-- the bits of the other qubits stay
rest_bit : (f : ℕ → ℕ) (n w i : ℕ) → ((t : ℕ) → t < n → f t ≢ w) → has_bit w (rest f n i) ≡ has_bit w i
rest_bit f zero w i others = refl
rest_bit f (suc n) w i others = by (has_bit (f n) (rest f n i)) ∙ rest_bit f n w i (λ t ht. others t (omega arith))
  where
    by : (b : Bool) → has_bit w (if b then flipped_state (f n) (rest f n i) else rest f n i) ≡ has_bit w (rest f n i)
    by true = bit_kept w (f n) (rest f n i) (λ h. others n (omega arith) (sym h))
    by false = refl

-- ---- both together

-- two states are the same where both flipped by a test are, or both are not
unflipped : (t i j : ℕ) (b c : Bool) → b ≡ c → (if b then flipped_state t i else i) ≡ (if c then flipped_state t j else j) → i ≡ j
unflipped t i j true true same h = sym (flipped_twice t i) ∙ ap (flipped_state t) h ∙ flipped_twice t j
unflipped t i j false false same h = h
unflipped t i j true false same h = absurd (true≢false same)
unflipped t i j false true same h = absurd (true≢false (sym same))

-- a state is known by the bits and by what is left
joined : (f : ℕ → ℕ) (n i j : ℕ) → AreDifferent f n → rest f n i ≡ rest f n j → small f n i ≡ small f n j → i ≡ j
joined f zero i j different first second = first
joined f (suc n) i j different first second =
    let bits : has_bit (f n) i ≡ has_bit (f n) j = sym (small_bit f (suc n) n i (omega arith)) ∙ ap (has_bit n) second ∙ small_bit f (suc n) n j (omega arith) in
    let others : (t : ℕ) → t < n → f t ≢ f n = λ t ht h. last_other f n different t ht (sym h) in
    let left = rest_bit f n (f n) i others ∙ bits ∙ sym (rest_bit f n (f n) j others) in
    joined f n i j (fewer f n different)
    (unflipped (f n) (rest f n i) (rest f n j) (has_bit (f n) (rest f n i)) (has_bit (f n) (rest f n j)) left first)
    (unflipped n (small f n i) (small f n j) (has_bit (f n) i) (has_bit (f n) j) bits second)

-- so are tests of it
pub test_parts : (f : ℕ → ℕ) (n i j : ℕ) → AreDifferent f n → (i == j) ≡ ((rest f n i == rest f n j) && (small f n i == small f n j))
test_parts f n i j different =
    same_from_decides (i == j) ((rest f n i == rest f n j) && (small f n i == small f n j)) (Decides-eqb i j)
    (Decides-like ((rest f n i == rest f n j) && (small f n i == small f n j)) (λ h. joined f n i j different h.0 h.1) (λ h. (ap (rest f n) h, ap (small f n) h))
    (Decides-and (rest f n i == rest f n j) (small f n i == small f n j) (Decides-eqb (rest f n i) (rest f n j)) (Decides-eqb (small f n i) (small f n j))))
