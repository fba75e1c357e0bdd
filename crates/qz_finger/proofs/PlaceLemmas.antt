-- Places of two rows: their lower bits are those of the row whose values are weighed.
use Rattle.std.proofs.Common.{◌≡◌, ℕ, ◌+◌, ◌*◌, ◌^◌, ◌<◌, ◌≤◌, ◌==◌, sym, ap, subst, ◌∙◌, mul-le-mul, arith}
use Rattle.std.specs.Int.Bits.{bit_and, xor_add_and}
use Rattle.std.proofs.Math.Nat.{pow-le-pow_right}
use Rattle.std.proofs.lemmas.Nat.{pow-add, mul-add-lt}
use Rattle.std.proofs.lemmas.Nat.Bits.{and_pow, bit_at_cat_low}
use Rattle.qz_circ.specs.Paths.{has_bit, flipped_state}
use Rattle.qz_circ.proofs.Flips.{flip_below}
use Rattle.qz_finger.specs.Weights.{place_of, entries_on}

-- a place is one of all
pub place_below : (q i l : ℕ) → i < 2 ^ q → l < 2 ^ q → place_of q i l < entries_on q
place_below q i l first second = mul-add-lt i (2 ^ q) l (2 ^ q) first second

-- there are at most 64
pub few_entries : (q : ℕ) → q ≤ 3 → entries_on q ≤ 64
few_entries q few =
    let power : 2 ^ q ≤ 2 ^ 3 = pow-le-pow_right {n = 2} (omega arith) few in
    mul-le-mul power power

-- the second row's qubits are the lower ones
pub place_bit : (q t i l : ℕ) → t < q → has_bit t (place_of q i l) ≡ has_bit t l
place_bit q t i l less = ap (λ x. x == 1) (bit_at_cat_low i q l t less)

-- a qubit that is flipped in a place is flipped in the second row
pub flipped_place : (q t i l : ℕ) → t < q → flipped_state t (place_of q i l) ≡ place_of q i (flipped_state t l)
flipped_place q t i l less =
    let whole = xor_add_and (place_of q i l) (2 ^ t) in
    let row = xor_add_and l (2 ^ t) in
    let both : bit_and (place_of q i l) (2 ^ t) ≡ bit_and l (2 ^ t) = and_pow (place_of q i l) t ∙ ap (λ b. b * 2 ^ t) (bit_at_cat_low i q l t less) ∙ sym (and_pow l t) in
    omega (arith, whole, row, both)

-- all places stay places where one of their qubits is flipped
pub closed : (q t size k : ℕ) → t < q → size ≡ entries_on q → k < size → flipped_state t k < size
closed q t size k less is within =
    let power : 2 ^ (q + q) ≡ size = pow-add 2 q q ∙ sym is in
    subst (λ n. flipped_state t k < n) power (flip_below (q + q) t k (omega arith) (subst (λ n. k < n) (sym power) within))
