-- Powers modulo m, one after the other and by squares.
use Rattle.std.proofs.Common.{◌≡◌, ◌≢◌, ℕ, suc, ◌+◌, ◌*◌, ◌/◌, ◌%◌, ◌^◌, ◌<◌, ◌==◌, Bool, true, false, refl, sym, ap, ◌∙◌, add-one, mod-eq_of_lt, true≢false, arith}
use Rattle.std.specs.Prelude.{if◌then◌else◌}
use Rattle.std.proofs.Math.Nat.{pow-suc, pow-zero, mod-mod}
use Rattle.std.proofs.lemmas.Nat.{pow-add, mul-pow, mul-mod_first}
use Rattle.std.proofs.lemmas.Bool.Decides.{Decides-eqb}
use Rattle.qz_finger.proofs.Modular.{Same, same_by, same_mul, same_pow}

-- a remainder's remainder
pub rest_twice : (m x : ℕ) → Same m (x % m) x
rest_twice m x = mod-mod x m

-- the next power
pub power_more : (m b k x y : ℕ) → x ≡ b ^ k % m → y ≡ x * b % m → y ≡ b ^ (k + 1) % m
power_more m b k x y here next =
    next ∙ ap (λ z. z * b % m) here ∙ mul-mod_first (b ^ k) b m ∙ ap (λ z. z % m) (sym (pow-suc b k) ∙ ap (λ l. b ^ l) (sym (add-one k)))

-- a power of a square
square_power : (s k : ℕ) → (s * s) ^ k ≡ s ^ (k + k)
square_power s k = mul-pow s s k ∙ sym (pow-add s k k)

-- one bit of the exponent less
pub squared_more : (m p s r p' s' : ℕ) → p' ≡ (if r % 2 == 1 then p * s else p) % m → s' ≡ s * s % m → Same m (p' * s' ^ (r / 2)) (p * s ^ r)
squared_more m p s r p' s' taken squared =
    let k = r / 2 in
    let halved : Same m (s' ^ k) (s ^ (k + k)) = same_pow m s' (s * s) k (ap (λ x. x % m) squared ∙ rest_twice m (s * s)) ∙ ap (λ x. x % m) (square_power s k) in
    by (r % 2 == 1) (Decides-eqb (r % 2) 1).0 (Decides-eqb (r % 2) 1).1 taken halved
  where
    by : (b : Bool) → (b ≡ true → r % 2 ≡ 1) → (r % 2 ≡ 1 → b ≡ true) → p' ≡ (if b then p * s else p) % m → Same m (s' ^ (r / 2)) (s ^ (r / 2 + r / 2)) → Same m (p' * s' ^ (r / 2)) (p * s ^ r)
    by true odd back taken halved =
        let k = r / 2 in
        let parts : r ≡ suc (k + k) = let one = odd refl in omega arith in
        let power = ap (λ l. p * s ^ l) parts ∙ ap (λ x. p * x) (pow-suc s (k + k)) in
        same_mul m p' (p * s) (s' ^ k) (s ^ (k + k)) (ap (λ x. x % m) taken ∙ rest_twice m (p * s)) halved ∙
        same_by m (p * s * s ^ (k + k)) (p * s ^ r) 0 0 (omega arith)
    by false odd back taken halved =
        let k = r / 2 in
        let even : r % 2 ≢ 1 = λ one. true≢false (sym (back one)) in
        let parts : k + k ≡ r = omega arith in
        same_mul m p' p (s' ^ k) (s ^ (k + k)) (ap (λ x. x % m) taken ∙ rest_twice m p) halved ∙ ap (λ l. p * s ^ l % m) parts

-- no bit left
pub squared_end : (m p s r x : ℕ) → p < m → r ≡ 0 → Same m (p * s ^ r) x → p ≡ x % m
squared_end m p s r x below none same =
    let one : s ^ r ≡ 1 = ap (λ l. s ^ l) none ∙ pow-zero s in
    let alone : p * 1 ≡ p = omega arith in
    let whole = ap (λ y. p * y) one ∙ alone in
    sym (mod-eq_of_lt below) ∙ ap (λ y. y % m) (sym whole) ∙ same
