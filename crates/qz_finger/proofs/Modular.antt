-- Numbers that are the same modulo m, and whole numbers as natural ones modulo n + 1, where n stands for -1.
use Rattle.std.proofs.Common.{◌≡◌, ℕ, zero, suc, ◌+◌, ◌*◌, ◌%◌, ◌^◌, refl, sym, ap, ◌∙◌, arith}
use Rattle.std.specs.Prelude.{ℤ, pos, negsuc, ◌+ℤ◌, ◌-ℤ◌, ◌*ℤ◌, neg_ℤ}
use Rattle.std.proofs.lemmas.Int.{ints}
use Rattle.std.proofs.Math.Nat.{add-mod, add-mul-mod_self_left}
use Rattle.std.proofs.lemmas.Nat.{mul-mod, pow-mod}
use Rattle.qz_finger.specs.Modulo.{residue}
use borrow.Author.Differences.{up, down, sum_is_lem, neg_is}

-- the same modulo m
abbrev pub Same : ℕ → ℕ → ℕ → Type 0
Same m x y = x % m ≡ y % m

-- numbers that multiples of m make equal
pub same_by : (m x y k l : ℕ) → x + m * k ≡ y + m * l → Same m x y
same_by m x y k l h = sym (add-mul-mod_self_left x m k) ∙ ap (λ z. z % m) h ∙ add-mul-mod_self_left y m l

-- sums
pub same_add : (m a b c d : ℕ) → Same m a b → Same m c d → Same m (a + c) (b + d)
same_add m a b c d h k = add-mod a c m ∙ (λ i. (h i + k i) % m) ∙ sym (add-mod b d m)

-- products
pub same_mul : (m a b c d : ℕ) → Same m a b → Same m c d → Same m (a * c) (b * d)
same_mul m a b c d h k = mul-mod a c m ∙ (λ i. (h i * k i) % m) ∙ sym (mul-mod b d m)

-- powers
pub same_pow : (m a b k : ℕ) → Same m a b → Same m (a ^ k) (b ^ k)
same_pow m a b k h = sym (pow-mod a k m) ∙ ap (λ x. x ^ k % m) h ∙ pow-mod b k m

-- a number and its opposite cancel
opposite_cancels : (n x : ℕ) → Same (n + 1) (x + n * x) 0
opposite_cancels n x = same_by (n + 1) (x + n * x) 0 0 x (omega arith)

-- the opposite of the opposite
pub opposite_back : (n x : ℕ) → Same (n + 1) (n * (n * x)) x
opposite_back n x = same_by (n + 1) (n * (n * x)) x x (n * x) (omega arith)

-- numbers of which one and the other's opposite cancel
pub same_from_opposite : (n a b : ℕ) → Same (n + 1) (a + n * b) 0 → Same (n + 1) a b
same_from_opposite n a b h =
    let more : Same (n + 1) (a + n * b + b) (0 + b) = same_add (n + 1) (a + n * b) 0 b b h refl in
    same_by (n + 1) a (a + n * b + b) b 0 (omega arith) ∙ more ∙ same_by (n + 1) (0 + b) b 0 0 (omega arith)

-- the whole number by its two parts
residue_is : (n : ℕ) (z : ℤ) → residue n z ≡ up z + n * down z
residue_is n (pos k) = omega arith
residue_is n (negsuc k) = omega arith

-- a sum
pub residue_add : (n : ℕ) (y z : ℤ) → Same (n + 1) (residue n (y +ℤ z)) (residue n y + residue n z)
residue_add n y z =
    let first = residue_is n (y +ℤ z) in
    let second = residue_is n y in
    let third = residue_is n z in
    same_by (n + 1) (residue n (y +ℤ z)) (residue n y + residue n z) (down y + down z) (down (y +ℤ z)) (omega (arith, ints))

-- the opposite
pub residue_neg : (n : ℕ) (z : ℤ) → Same (n + 1) (residue n (neg_ℤ z)) (n * residue n z)
residue_neg n (pos zero) = same_by (n + 1) 0 (n * 0) 0 0 (omega arith)
residue_neg n (pos (suc k)) = same_by (n + 1) (n * (k + 1)) (n * suc k) 0 0 (omega arith)
residue_neg n (negsuc k) = same_by (n + 1) (suc k) (n * (n * (k + 1))) (n * (k + 1)) (k + 1) (omega arith)

-- a product
pub residue_mul : (n : ℕ) (y z : ℤ) → Same (n + 1) (residue n (y *ℤ z)) (residue n y * residue n z)
residue_mul n (pos a) (pos b) = refl
residue_mul n (pos a) (negsuc b) = residue_neg n (pos (a * suc b)) ∙ same_by (n + 1) (n * (a * suc b)) (a * (n * (b + 1))) 0 0 (omega arith)
residue_mul n (negsuc a) (pos b) = residue_neg n (pos (suc a * b)) ∙ same_by (n + 1) (n * (suc a * b)) (n * (a + 1) * b) 0 0 (omega arith)
residue_mul n (negsuc a) (negsuc b) = same_by (n + 1) (suc a * suc b) (n * (a + 1) * (n * (b + 1))) (n * (suc a * suc b)) (suc a * suc b) (omega arith)

-- ---- products of whole numbers

-- over a difference
pub times-sub : (x y v : ℤ) → (x -ℤ y) *ℤ v ≡ x *ℤ v -ℤ y *ℤ v
times-sub x y v =
    let parts = sum_is_lem x (neg_ℤ y) in
    let first = ap (λ k. k * up v) parts in
    let second = ap (λ k. k * down v) parts in
    let negated = neg_is y in
    let third = ap (λ k. k * up v) negated.0 in
    let fourth = ap (λ k. k * down v) negated.0 in
    let fifth = ap (λ k. k * up v) negated.1 in
    let sixth = ap (λ k. k * down v) negated.1 in
    omega (arith, ints)

-- with an opposite
pub times-neg : (x v : ℤ) → x *ℤ neg_ℤ v ≡ neg_ℤ (x *ℤ v)
times-neg x v =
    let negated = neg_is v in
    let first = ap (λ k. up x * k) negated.0 in
    let second = ap (λ k. down x * k) negated.0 in
    let third = ap (λ k. up x * k) negated.1 in
    let fourth = ap (λ k. down x * k) negated.1 in
    omega (arith, ints)
