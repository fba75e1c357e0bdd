-- Places of entries: their bits are those of the row below, and of the column above.
use Rattle.std.proofs.Common.{◌≡◌, ℕ, ◌+◌, ◌*◌, ◌^◌, ◌<◌, ◌==◌, sym, ap, subst, ◌∙◌, arith}
use Rattle.std.specs.Int.Bits.{bit_and, xor_add_and}
use Rattle.std.proofs.lemmas.Nat.{pow-add, mul-add-lt}
use Rattle.std.proofs.lemmas.Nat.Bits.{and_pow, bit_at_cat_low}
use Rattle.qz_circ.specs.Paths.{has_bit, flipped_state}
use Rattle.qz_circ.proofs.Flips.{flip_below}
use Rattle.qz_matrix.specs.Entries.{place_of}
use Rattle.qz_matrix.specs.AfterGate.{IsClosed}

-- a place is one of all
pub place_below : (q i j : ℕ) → i < 2 ^ q → j < 2 ^ q → place_of q i j < 2 ^ q * 2 ^ q
place_below q i j row column = mul-add-lt j (2 ^ q) i (2 ^ q) column row

-- a row's qubits are the lower ones of its places
pub place_bit : (q t i j : ℕ) → t < q → has_bit t (place_of q i j) ≡ has_bit t i
place_bit q t i j less = ap (λ x. x == 1) (bit_at_cat_low j q i t less)

-- a qubit that is flipped in a place is flipped in the row
pub flipped_place : (q t i j : ℕ) → t < q → flipped_state t (place_of q i j) ≡ place_of q (flipped_state t i) j
flipped_place q t i j less =
    let whole = xor_add_and (place_of q i j) (2 ^ t) in
    let row = xor_add_and i (2 ^ t) in
    let both : bit_and (place_of q i j) (2 ^ t) ≡ bit_and i (2 ^ t) = and_pow (place_of q i j) t ∙ ap (λ b. b * 2 ^ t) (bit_at_cat_low j q i t less) ∙ sym (and_pow i t) in
    omega (arith, whole, row, both)

-- all places stay places where a row's qubit is flipped
pub closed : (q t size : ℕ) → t < q → size ≡ 2 ^ q * 2 ^ q → IsClosed t size
closed q t size less is k within =
    let power : 2 ^ (q + q) ≡ size = pow-add 2 q q ∙ sym is in
    subst (λ n. flipped_state t k < n) power (flip_below (q + q) t k (omega arith) (subst (λ n. k < n) (sym power) within))
