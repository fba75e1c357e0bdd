-- States with a qubit flipped, and their bits.
use Rattle.std.proofs.Common.{◌≡◌, ◌≢◌, ℕ, zero, suc, ◌+◌, ◌%◌, ◌^◌, ◌<◌, ◌==◌, Bool, true, false, not, refl, sym, ap, ◌∙◌, arith, true≢false}
use Rattle.std.specs.Int.{bit_at}
use Rattle.std.specs.Int.Bits.{bit_xor, xor_assoc, xor_self, xor_zero_r}
use Rattle.std.proofs.lemmas.Nat.{xor_comm, xor_lt, pow_below}
use Rattle.std.proofs.lemmas.Nat.Bits.{bit_at_xor, bit_at-pow_same, bit_at-pow_other, bit_at-lt}
use Rattle.qz_circ.specs.Paths.{has_bit, flipped_state}

-- a flip undoes itself
pub flipped_twice : (t i : ℕ) → flipped_state t (flipped_state t i) ≡ i
flipped_twice t i = xor_assoc i (2 ^ t) (2 ^ t) ∙ ap (bit_xor i) (xor_self (2 ^ t)) ∙ xor_zero_r i

-- two flips in either order
pub flips_swap : (s t i : ℕ) → flipped_state s (flipped_state t i) ≡ flipped_state t (flipped_state s i)
flips_swap s t i = xor_assoc i (2 ^ t) (2 ^ s) ∙ ap (bit_xor i) (xor_comm (2 ^ t) (2 ^ s)) ∙ sym (xor_assoc i (2 ^ s) (2 ^ t))

-- a flip of one of q qubits stays among their states
pub flip_below : (q t i : ℕ) → t < q → i < 2 ^ q → flipped_state t i < 2 ^ q
flip_below q t i below_q less = xor_lt q i (2 ^ t) less (pow_below t q below_q)

-- the bit that is flipped
pub bit_flipped : (t i : ℕ) → has_bit t (flipped_state t i) ≡ not (has_bit t i)
bit_flipped t i = ap (λ x. x == 1) (bit_at_xor i (2 ^ t) t ∙ ap (λ x. (bit_at i t + x) % 2) (bit_at-pow_same t)) ∙ other (bit_at i t) (bit_at-lt i t)
  where
    other : (x : ℕ) → x < 2 → ((x + 1) % 2 == 1) ≡ not (x == 1)
    other zero h = refl
    other (suc zero) h = refl
    other (suc (suc x)) h = absurd (omega arith)

-- the other bits stay
pub bit_kept : (s t i : ℕ) → s ≢ t → has_bit s (flipped_state t i) ≡ has_bit s i
bit_kept s t i apart = ap (λ x. x == 1) (bit_at_xor i (2 ^ t) s ∙ ap (λ x. (bit_at i s + x) % 2) (bit_at-pow_other t s apart) ∙ same (bit_at i s) (bit_at-lt i s))
  where
    same : (x : ℕ) → x < 2 → (x + 0) % 2 ≡ x
    same x h = omega arith

-- a flip changes the state
pub flip_apart : (t i : ℕ) → i ≢ flipped_state t i
flip_apart t i same = changed (has_bit t i) (ap (has_bit t) same ∙ bit_flipped t i)
  where
    changed : (b : Bool) → b ≡ not b → ⊥
    changed true h = true≢false h
    changed false h = true≢false (sym h)
