-- Values of all exponents, by a number whose power to 512 is 1 and by bases with inverses: they go over products, and the
-- values by the inverse bases are the inverse values.
use Rattle.std.proofs.Common.{◌≡◌, ℕ, zero, suc, ◌+◌, ◌*◌, ◌/◌, ◌%◌, ◌^◌, refl, sym, ap, ◌∙◌, arith}
use Rattle.std.specs.Prelude.{ℤ, pos, negsuc, ◌+ℤ◌}
use Rattle.std.proofs.Math.Nat.{pow-suc, pow-zero}
use Rattle.std.proofs.lemmas.Nat.{pow-add}
use borrow.Author.Differences.{up, down, sum_is_lem}
use Rattle.qz_circ.specs.Exponent.{Exponent, plus, turn_of}
use Rattle.qz_finger.specs.Modulo.{raise}
use Rattle.qz_finger.specs.Fingerprint.{Bases, inverted}
use Rattle.qz_finger.proofs.Modular.{Same, same_by, same_add, same_mul, same_pow}
use Rattle.qz_finger.proofs.WayValues.{IsValue}
use Rattle.qz_finger.proofs.WeighedSums.{one-pow, inverse_powers}

-- each base has its inverse
pub record AreBases (m : ℕ) (b : Bases) : Type 0 where
  pub first : Same m (b.g0 * b.h0) 1
  pub second : Same m (b.g1 * b.h1) 1
  pub third : Same m (b.g2 * b.h2) 1

-- the value of an exponent, where z stands for one turn
abbrev pub value_at : ℕ → Bases → Exponent → ℕ
value_at z b e = z ^ e.turn * raise b.g0 b.h0 e.x0 * raise b.g1 b.h1 e.x1 * raise b.g2 b.h2 e.x2

-- ---- powers

-- a whole power by its two parts
raise_is : (g h : ℕ) (z : ℤ) → raise g h z ≡ g ^ up z * h ^ down z
raise_is g h (pos k) = let none = ap (λ x. g ^ k * x) (pow-zero h) in omega arith
raise_is g h (negsuc k) = let none = ap (λ x. x * h ^ suc k) (pow-zero g) in let same : h ^ (k + 1) ≡ h ^ suc k = ap (λ l. h ^ l) (omega arith) in omega arith

-- powers of a number and of its inverse, of which the same number is taken away
powers_same : (m g h a b c d : ℕ) → Same m (g * h) 1 → a + d ≡ c + b → Same m (g ^ a * h ^ b) (g ^ c * h ^ d)
powers_same m g h a b c d inverse same =
    let left = ap (λ x. x * h ^ (b + d)) (pow-add g a d) in
    same_by m (g ^ a * h ^ b) (g ^ a * h ^ b * 1) 0 0 (omega arith) ∙
    sym (same_mul m (g ^ a * h ^ b) (g ^ a * h ^ b) (g ^ d * h ^ d) 1 refl (inverse_powers m g h d inverse)) ∙
    same_by m (g ^ a * h ^ b * (g ^ d * h ^ d)) (g ^ a * g ^ d * (h ^ b * h ^ d)) 0 0 (omega arith) ∙
    ap (λ x. x * (h ^ b * h ^ d) % m) (sym (pow-add g a d) ∙ ap (λ k. g ^ k) same ∙ pow-add g c b) ∙
    same_by m (g ^ c * g ^ b * (h ^ b * h ^ d)) (g ^ c * h ^ d * (g ^ b * h ^ b)) 0 0 (omega arith) ∙
    same_mul m (g ^ c * h ^ d) (g ^ c * h ^ d) (g ^ b * h ^ b) 1 refl (inverse_powers m g h b inverse) ∙
    same_by m (g ^ c * h ^ d * 1) (g ^ c * h ^ d) 0 0 (omega arith)

-- a sum of powers
raise_add : (m g h : ℕ) (y z : ℤ) → Same m (g * h) 1 → Same m (raise g h (y +ℤ z)) (raise g h y * raise g h z)
raise_add m g h y z inverse =
    ap (λ x. x % m) (raise_is g h (y +ℤ z)) ∙
    powers_same m g h (up (y +ℤ z)) (down (y +ℤ z)) (up y + up z) (down y + down z) inverse (omega (arith, sum_is_lem y z)) ∙
    (λ d. pow-add g (up y) (up z) d * pow-add h (down y) (down z) d % m) ∙
    same_by m (g ^ up y * g ^ up z * (h ^ down y * h ^ down z)) (g ^ up y * h ^ down y * (g ^ up z * h ^ down z)) 0 0 (omega arith) ∙
    sym (λ d. raise_is g h y d * raise_is g h z d % m)

-- a power and that of the inverse
raise_inverse : (m g h : ℕ) (z : ℤ) → Same m (g * h) 1 → Same m (raise g h z * raise h g z) 1
raise_inverse m g h (pos k) inverse = inverse_powers m g h k inverse
raise_inverse m g h (negsuc k) inverse = same_by m (h ^ (k + 1) * g ^ (k + 1)) (g ^ (k + 1) * h ^ (k + 1)) 0 0 (omega arith) ∙ inverse_powers m g h (k + 1) inverse

-- a power of a power
pub pow_pow : (g a k : ℕ) → (g ^ a) ^ k ≡ g ^ (a * k)
pow_pow g a zero = let none : 0 ≡ a * 0 = omega arith in pow-zero (g ^ a) ∙ sym (pow-zero g) ∙ ap (λ l. g ^ l) none
pow_pow g a (suc k) =
    let more : a * k + a ≡ a * suc k = omega arith in
    pow-suc (g ^ a) k ∙ ap (λ x. x * g ^ a) (pow_pow g a k) ∙ sym (pow-add g (a * k) a) ∙ ap (λ l. g ^ l) more

-- a power of turns counts modulo 512
turns_same : (m z k : ℕ) → Same m (z ^ 512) 1 → Same m (z ^ (k % 512)) (z ^ k)
turns_same m z k circle =
    let rounds = k / 512 in
    let parts : k % 512 + 512 * rounds ≡ k = omega arith in
    let once : Same m ((z ^ 512) ^ rounds) 1 = same_pow m (z ^ 512) 1 rounds circle ∙ ap (λ x. x % m) (one-pow rounds) in
    same_by m (z ^ (k % 512)) (z ^ (k % 512) * 1) 0 0 (omega arith) ∙
    sym (same_mul m (z ^ (k % 512)) (z ^ (k % 512)) ((z ^ 512) ^ rounds) 1 refl once) ∙
    ap (λ x. z ^ (k % 512) * x % m) (pow_pow z 512 rounds) ∙
    ap (λ x. x % m) (sym (pow-add z (k % 512) (512 * rounds)) ∙ ap (λ l. z ^ l) parts)

-- products of four
four : (m a0 a1 a2 a3 b0 b1 b2 b3 : ℕ) → Same m a0 b0 → Same m a1 b1 → Same m a2 b2 → Same m a3 b3 → Same m (a0 * a1 * a2 * a3) (b0 * b1 * b2 * b3)
four m a0 a1 a2 a3 b0 b1 b2 b3 h0 h1 h2 h3 =
    same_mul m (a0 * a1 * a2) (b0 * b1 * b2) a3 b3 (same_mul m (a0 * a1) (b0 * b1) a2 b2 (same_mul m a0 b0 a1 b1 h0 h1) h2) h3

-- ---- values

-- they go over products
value_product : (m z : ℕ) (b : Bases) → AreBases m b → Same m (z ^ 512) 1 → (d e : Exponent) → Same m (value_at z b (plus d e)) (value_at z b d * value_at z b e)
value_product m z b are circle d e =
    let turns : Same m (z ^ ((d.turn + e.turn) % 512)) (z ^ d.turn * z ^ e.turn) = turns_same m z (d.turn + e.turn) circle ∙ ap (λ x. x % m) (pow-add z d.turn e.turn) in
    all_four (z ^ ((d.turn + e.turn) % 512)) (raise b.g0 b.h0 (d.x0 +ℤ e.x0)) (raise b.g1 b.h1 (d.x1 +ℤ e.x1)) (raise b.g2 b.h2 (d.x2 +ℤ e.x2))
    (z ^ d.turn) (raise b.g0 b.h0 d.x0) (raise b.g1 b.h1 d.x1) (raise b.g2 b.h2 d.x2) (z ^ e.turn) (raise b.g0 b.h0 e.x0) (raise b.g1 b.h1 e.x1) (raise b.g2 b.h2 e.x2)
    turns (raise_add m b.g0 b.h0 d.x0 e.x0 are.first) (raise_add m b.g1 b.h1 d.x1 e.x1 are.second) (raise_add m b.g2 b.h2 d.x2 e.x2 are.third)
  where
    all_four : (a0 a1 a2 a3 b0 b1 b2 b3 c0 c1 c2 c3 : ℕ) → Same m a0 (b0 * c0) → Same m a1 (b1 * c1) → Same m a2 (b2 * c2) → Same m a3 (b3 * c3) →
        Same m (a0 * a1 * a2 * a3) (b0 * b1 * b2 * b3 * (c0 * c1 * c2 * c3))
    all_four a0 a1 a2 a3 b0 b1 b2 b3 c0 c1 c2 c3 h0 h1 h2 h3 =
        four m a0 a1 a2 a3 (b0 * c0) (b1 * c1) (b2 * c2) (b3 * c3) h0 h1 h2 h3 ∙
        same_by m (b0 * c0 * (b1 * c1) * (b2 * c2) * (b3 * c3)) (b0 * b1 * b2 * b3 * (c0 * c1 * c2 * c3)) 0 0 (omega arith)

-- and are values, with the square root of two r
pub is_value : (n r z : ℕ) (b : Bases) → AreBases (n + 1) b → Same (n + 1) (z ^ 512) 1 → Same (n + 1) (z ^ 256) n → Same (n + 1) (z ^ 64 + n * z ^ 192) r → IsValue n r (value_at z b)
is_value n r z b are circle half root = record {
  one = alone 0 ∙ ap (λ x. x % (n + 1)) (pow-zero z);
  product = λ d e hd he. value_product (n + 1) z b are circle d e;
  half = alone 256 ∙ half;
  root = same_add (n + 1) (value_at z b (turn_of 64)) (z ^ 64) (n * value_at z b (turn_of 192)) (n * z ^ 192) (alone 64) (same_mul (n + 1) n n (value_at z b (turn_of 192)) (z ^ 192) refl (alone 192)) ∙ root;
}
  where
    alone : (k : ℕ) → Same (n + 1) (z ^ k * b.g0 ^ 0 * b.g1 ^ 0 * b.g2 ^ 0) (z ^ k)
    alone k = (λ d. z ^ k * pow-zero b.g0 d * pow-zero b.g1 d * pow-zero b.g2 d % (n + 1)) ∙ same_by (n + 1) (z ^ k * 1 * 1 * 1) (z ^ k) 0 0 (omega arith)

-- the values by the inverse bases are the inverse values
pub values_inverse : (m z y : ℕ) (b : Bases) → AreBases m b → Same m (z * y) 1 → (e : Exponent) → Same m (value_at z b e * value_at y (inverted b) e) 1
values_inverse m z y b are inverse e =
    same_by m (value_at z b e * value_at y (inverted b) e)
    (z ^ e.turn * y ^ e.turn * (raise b.g0 b.h0 e.x0 * raise b.h0 b.g0 e.x0) * (raise b.g1 b.h1 e.x1 * raise b.h1 b.g1 e.x1) * (raise b.g2 b.h2 e.x2 * raise b.h2 b.g2 e.x2)) 0 0 (omega arith) ∙
    four m (z ^ e.turn * y ^ e.turn) (raise b.g0 b.h0 e.x0 * raise b.h0 b.g0 e.x0) (raise b.g1 b.h1 e.x1 * raise b.h1 b.g1 e.x1) (raise b.g2 b.h2 e.x2 * raise b.h2 b.g2 e.x2) 1 1 1 1
    (inverse_powers m z y e.turn inverse) (raise_inverse m b.g0 b.h0 e.x0 are.first) (raise_inverse m b.g1 b.h1 e.x1 are.second) (raise_inverse m b.g2 b.h2 e.x2 are.third)
