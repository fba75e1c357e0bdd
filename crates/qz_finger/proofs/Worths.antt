-- What angles are worth, by the tables of a probe.
use Rattle.std.proofs.Common.{◌≡◌, ◌≢◌, ℕ, zero, suc, ◌*◌, ◌/◌, ◌%◌, ◌^◌, ◌<◌, refl, sym, ap, ◌∙◌, mul_comm, one-mul, arith}
use Rattle.std.specs.Prelude.{slice_index}
use Rattle.std.proofs.Math.Nat.{pow-suc, pow-zero}
use Rattle.std.proofs.lemmas.Nat.{mul-mod}
use Rattle.std.proofs.lemmas.List.FromFn.{get_or-map-range_with_len}
use Rattle.qz_circ.specs.declared.circuit.Expr.TheVariants.{Const, Plus, Minus, Sum}
use Rattle.qz_circ.specs.Exponent.{angle_exponent, constant_turn}
use Rattle.qz_finger.specs.Modulo.{modulus}
use Rattle.qz_finger.specs.Fingerprint.{Bases, value}
use Rattle.qz_finger.specs.Tables.{powers_of, three_of}

-- a power to 1
pow_one : (x : ℕ) → x ^ 1 ≡ x
pow_one x = pow-suc x 0 ∙ ap (λ y. y * x) (pow-zero x) ∙ one-mul x

-- the first factor alone
first_alone : (x : ℕ) → x * 1 * 1 * 1 ≡ x
first_alone x = omega arith

-- the second alone
second_alone : (x : ℕ) → 1 * x * 1 * 1 ≡ x
second_alone x = omega arith

-- the third alone
third_alone : (x : ℕ) → 1 * 1 * x * 1 ≡ x
third_alone x = omega arith

-- the fourth alone
fourth_alone : (x : ℕ) → 1 * 1 * 1 * x ≡ x
fourth_alone x = omega arith

-- a product with powers to 0
pub alone : (x a b c : ℕ) → x * a ^ 0 * b ^ 0 * c ^ 0 ≡ x
alone x a b c = (λ d. x * pow-zero a d * pow-zero b d * pow-zero c d) ∙ first_alone x

-- the value with powers 1, 0 and 0
only_first : (r a b c : ℕ) → r ^ 0 * a ^ 1 * b ^ 0 * c ^ 0 ≡ a
only_first r a b c = (λ d. pow-zero r d * pow_one a d * pow-zero b d * pow-zero c d) ∙ second_alone a

-- with 0, 1 and 0
only_second : (r a b c : ℕ) → r ^ 0 * a ^ 0 * b ^ 1 * c ^ 0 ≡ b
only_second r a b c = (λ d. pow-zero r d * pow-zero a d * pow_one b d * pow-zero c d) ∙ third_alone b

-- with 0, 0 and 1
only_third : (r a b c : ℕ) → r ^ 0 * a ^ 0 * b ^ 0 * c ^ 1 ≡ c
only_third r a b c = (λ d. pow-zero r d * pow-zero a d * pow-zero b d * pow_one c d) ∙ fourth_alone c

-- a constant
pub worth_const : (b : Bases) (t : ℕ) → slice_index (powers_of b.root) (t % 32) ≡ value b (angle_exponent (Const t)) % modulus
unfolding powers_of
worth_const b t =
    let turns : t % 32 ≡ constant_turn t / 16 = omega arith in
    get_or-map-range_with_len (λ k. b.root ^ k % modulus) 0 32 (t % 32) (t % 32) 0 (omega arith) (omega arith) ∙
    ap (λ k. b.root ^ k % modulus) turns ∙ ap (λ x. x % modulus) (sym (alone (b.root ^ (constant_turn t / 16)) b.g0 b.g1 b.g2))

-- a parameter
pub worth_plus : (b : Bases) (i : ℕ) → i < 3 → slice_index (three_of b.g0 b.g1 b.g2) i ≡ value b (angle_exponent (Plus i)) % modulus
worth_plus b zero less = ap (λ x. x % modulus) (sym (only_first b.root b.g0 b.g1 b.g2))
worth_plus b (suc zero) less = ap (λ x. x % modulus) (sym (only_second b.root b.g0 b.g1 b.g2))
worth_plus b (suc (suc zero)) less = ap (λ x. x % modulus) (sym (only_third b.root b.g0 b.g1 b.g2))
worth_plus b (suc (suc (suc i))) less = absurd (omega arith)

-- its negative
pub worth_minus : (b : Bases) (i : ℕ) → i < 3 → slice_index (three_of b.h0 b.h1 b.h2) i ≡ value b (angle_exponent (Minus i)) % modulus
worth_minus b zero less = ap (λ x. x % modulus) (sym (only_first b.root b.h0 b.g1 b.g2))
worth_minus b (suc zero) less = ap (λ x. x % modulus) (sym (only_second b.root b.g0 b.h1 b.g2))
worth_minus b (suc (suc zero)) less = ap (λ x. x % modulus) (sym (only_third b.root b.g0 b.g1 b.h2))
worth_minus b (suc (suc (suc i))) less = absurd (omega arith)

-- the order of two factors
swapped : (x y : ℕ) → x % modulus * (y % modulus) % modulus ≡ y % modulus * (x % modulus) % modulus
swapped x y = ap (λ z. z % modulus) (mul_comm (x % modulus) (y % modulus))

-- the sum of the first two
first_two : (b : Bases) → b.g0 % modulus * (b.g1 % modulus) % modulus ≡ b.root ^ 0 * b.g0 ^ 1 * b.g1 ^ 1 * b.g2 ^ 0 % modulus
first_two b =
    let both : 1 * b.g0 * b.g1 * 1 ≡ b.g0 * b.g1 = omega arith in
    sym (mul-mod b.g0 b.g1 modulus) ∙ ap (λ x. x % modulus) (sym ((λ d. pow-zero b.root d * pow_one b.g0 d * pow_one b.g1 d * pow-zero b.g2 d) ∙ both))

-- of the first and the third
first_third : (b : Bases) → b.g0 % modulus * (b.g2 % modulus) % modulus ≡ b.root ^ 0 * b.g0 ^ 1 * b.g1 ^ 0 * b.g2 ^ 1 % modulus
first_third b =
    let both : 1 * b.g0 * 1 * b.g2 ≡ b.g0 * b.g2 = omega arith in
    sym (mul-mod b.g0 b.g2 modulus) ∙ ap (λ x. x % modulus) (sym ((λ d. pow-zero b.root d * pow_one b.g0 d * pow-zero b.g1 d * pow_one b.g2 d) ∙ both))

-- and of the last two
last_two : (b : Bases) → b.g1 % modulus * (b.g2 % modulus) % modulus ≡ b.root ^ 0 * b.g0 ^ 0 * b.g1 ^ 1 * b.g2 ^ 1 % modulus
last_two b =
    let both : 1 * 1 * b.g1 * b.g2 ≡ b.g1 * b.g2 = omega arith in
    sym (mul-mod b.g1 b.g2 modulus) ∙ ap (λ x. x % modulus) (sym ((λ d. pow-zero b.root d * pow-zero b.g0 d * pow_one b.g1 d * pow_one b.g2 d) ∙ both))

-- the sum of two
pub worth_sum : (b : Bases) (i j : ℕ) → i < 3 → j < 3 → i ≢ j → slice_index (three_of b.g0 b.g1 b.g2) i * slice_index (three_of b.g0 b.g1 b.g2) j % modulus ≡ value b (angle_exponent (Sum i j)) % modulus
worth_sum b zero zero first second apart = absurd (apart refl)
worth_sum b zero (suc zero) first second apart = first_two b
worth_sum b zero (suc (suc zero)) first second apart = first_third b
worth_sum b (suc zero) zero first second apart = swapped b.g1 b.g0 ∙ first_two b
worth_sum b (suc zero) (suc zero) first second apart = absurd (apart refl)
worth_sum b (suc zero) (suc (suc zero)) first second apart = last_two b
worth_sum b (suc (suc zero)) zero first second apart = swapped b.g2 b.g0 ∙ first_third b
worth_sum b (suc (suc zero)) (suc zero) first second apart = swapped b.g2 b.g1 ∙ last_two b
worth_sum b (suc (suc zero)) (suc (suc zero)) first second apart = absurd (apart refl)
worth_sum b (suc (suc (suc i))) j first second apart = absurd (omega arith)
worth_sum b zero (suc (suc (suc j))) first second apart = absurd (omega arith)
worth_sum b (suc zero) (suc (suc (suc j))) first second apart = absurd (omega arith)
worth_sum b (suc (suc zero)) (suc (suc (suc j))) first second apart = absurd (omega arith)
