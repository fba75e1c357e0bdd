-- What limits that aren't refused meet, and how many gates and circuits are within limits.
use Rattle.std.proofs.Common.{◌≡◌, ℕ, zero, suc, ◌+◌, ◌-◌, ◌*◌, ◌/◌, ◌^◌, ◌<◌, ◌≤◌, true, refl, sym, subst, ◌⊎◌, inl, inr, arith}
use Rattle.std.proofs.Math.Nat.{mul-le-mul_right}
use Rattle.std.proofs.lemmas.Bool.Decides.{nat_tests}
use Rattle.qz_circ.specs.Circuit.{Limits, gates_of, angles}
use Rattle.qz_circ.specs.Bounds.{refusal, refusal_where, is_grain, gate_count, IsLawful}

-- each number is in its range, and there are few enough circuits
pub record InRange (b : Limits) : Type 0 where
  pub some_qubit : 0 < b.q
  pub qubits : b.q ≤ 3
  pub gates : b.n ≤ 6
  pub params : b.m ≤ 3
  pub grain : is_grain b.grain ≡ true
  pub circuits : gate_count b ^ b.n ≤ 8000000

-- the grains
pub grain_cases : (grain : ℕ) → is_grain grain ≡ true → (grain ≡ 4) ⊎ ((grain ≡ 8) ⊎ (grain ≡ 16))
grain_cases grain h = grind (arith, nat_tests)

-- what holds for each of them
pub for_grains : (P : ℕ → Type 0) (grain : ℕ) → is_grain grain ≡ true → P 4 → P 8 → P 16 → P grain
for_grains P grain h four eight sixteen =
    elim (grain_cases grain h) [
      | inl e ↦ subst P (sym e) four
      | inr more ↦ elim more [ inl e ↦ subst P (sym e) eight | inr e ↦ subst P (sym e) sixteen ]
    ]

-- how many gates there are, in numbers, by grain
gate_count_4 : (n q m : ℕ) → q ≤ 3 → m ≤ 3 → gate_count (record { n = n; q = q; m = m; grain = 4 }) ≡ q * (1 + q + (7 + 2 * m + m * (m - 1) / 2))
unfolding gate_count gates_of angles
gate_count_4 n zero zero h k = refl
gate_count_4 n zero (suc zero) h k = refl
gate_count_4 n zero (suc (suc zero)) h k = refl
gate_count_4 n zero (suc (suc (suc zero))) h k = refl
gate_count_4 n (suc zero) zero h k = refl
gate_count_4 n (suc zero) (suc zero) h k = refl
gate_count_4 n (suc zero) (suc (suc zero)) h k = refl
gate_count_4 n (suc zero) (suc (suc (suc zero))) h k = refl
gate_count_4 n (suc (suc zero)) zero h k = refl
gate_count_4 n (suc (suc zero)) (suc zero) h k = refl
gate_count_4 n (suc (suc zero)) (suc (suc zero)) h k = refl
gate_count_4 n (suc (suc zero)) (suc (suc (suc zero))) h k = refl
gate_count_4 n (suc (suc (suc zero))) zero h k = refl
gate_count_4 n (suc (suc (suc zero))) (suc zero) h k = refl
gate_count_4 n (suc (suc (suc zero))) (suc (suc zero)) h k = refl
gate_count_4 n (suc (suc (suc zero))) (suc (suc (suc zero))) h k = refl
gate_count_4 n (suc (suc (suc (suc q)))) m h k = absurd (omega arith)
gate_count_4 n q (suc (suc (suc (suc m)))) h k = absurd (omega arith)

gate_count_8 : (n q m : ℕ) → q ≤ 3 → m ≤ 3 → gate_count (record { n = n; q = q; m = m; grain = 8 }) ≡ q * (1 + q + (15 + 2 * m + m * (m - 1) / 2))
unfolding gate_count gates_of angles
gate_count_8 n zero zero h k = refl
gate_count_8 n zero (suc zero) h k = refl
gate_count_8 n zero (suc (suc zero)) h k = refl
gate_count_8 n zero (suc (suc (suc zero))) h k = refl
gate_count_8 n (suc zero) zero h k = refl
gate_count_8 n (suc zero) (suc zero) h k = refl
gate_count_8 n (suc zero) (suc (suc zero)) h k = refl
gate_count_8 n (suc zero) (suc (suc (suc zero))) h k = refl
gate_count_8 n (suc (suc zero)) zero h k = refl
gate_count_8 n (suc (suc zero)) (suc zero) h k = refl
gate_count_8 n (suc (suc zero)) (suc (suc zero)) h k = refl
gate_count_8 n (suc (suc zero)) (suc (suc (suc zero))) h k = refl
gate_count_8 n (suc (suc (suc zero))) zero h k = refl
gate_count_8 n (suc (suc (suc zero))) (suc zero) h k = refl
gate_count_8 n (suc (suc (suc zero))) (suc (suc zero)) h k = refl
gate_count_8 n (suc (suc (suc zero))) (suc (suc (suc zero))) h k = refl
gate_count_8 n (suc (suc (suc (suc q)))) m h k = absurd (omega arith)
gate_count_8 n q (suc (suc (suc (suc m)))) h k = absurd (omega arith)

gate_count_16 : (n q m : ℕ) → q ≤ 3 → m ≤ 3 → gate_count (record { n = n; q = q; m = m; grain = 16 }) ≡ q * (1 + q + (31 + 2 * m + m * (m - 1) / 2))
unfolding gate_count gates_of angles
gate_count_16 n zero zero h k = refl
gate_count_16 n zero (suc zero) h k = refl
gate_count_16 n zero (suc (suc zero)) h k = refl
gate_count_16 n zero (suc (suc (suc zero))) h k = refl
gate_count_16 n (suc zero) zero h k = refl
gate_count_16 n (suc zero) (suc zero) h k = refl
gate_count_16 n (suc zero) (suc (suc zero)) h k = refl
gate_count_16 n (suc zero) (suc (suc (suc zero))) h k = refl
gate_count_16 n (suc (suc zero)) zero h k = refl
gate_count_16 n (suc (suc zero)) (suc zero) h k = refl
gate_count_16 n (suc (suc zero)) (suc (suc zero)) h k = refl
gate_count_16 n (suc (suc zero)) (suc (suc (suc zero))) h k = refl
gate_count_16 n (suc (suc (suc zero))) zero h k = refl
gate_count_16 n (suc (suc (suc zero))) (suc zero) h k = refl
gate_count_16 n (suc (suc (suc zero))) (suc (suc zero)) h k = refl
gate_count_16 n (suc (suc (suc zero))) (suc (suc (suc zero))) h k = refl
gate_count_16 n (suc (suc (suc (suc q)))) m h k = absurd (omega arith)
gate_count_16 n q (suc (suc (suc (suc m)))) h k = absurd (omega arith)

pub gate_count_is : (n q m grain : ℕ) → q ≤ 3 → m ≤ 3 → is_grain grain ≡ true → gate_count (record { n = n; q = q; m = m; grain = grain }) ≡ q * (1 + q + (2 * grain - 1 + 2 * m + m * (m - 1) / 2))
gate_count_is n q m grain h k l =
    for_grains (λ g. gate_count (record { n = n; q = q; m = m; grain = g }) ≡ q * (1 + q + (2 * g - 1 + 2 * m + m * (m - 1) / 2))) grain l
    (gate_count_4 n q m h k) (gate_count_8 n q m h k) (gate_count_16 n q m h k)

-- lawful limits are in range
pub in_range : (b : Limits) → IsLawful b → InRange b
unfolding refusal refusal_where
in_range b h = grind (arith, nat_tests)

-- there are at least nine gates
pub nine_gates : (b : Limits) → InRange b → 9 ≤ gate_count b
nine_gates b h =
    let one : 1 ≤ b.q = omega (arith, h.some_qubit) in
    let angles = 2 * b.grain - 1 + 2 * b.m + b.m * (b.m - 1) / 2 in
    let more : 1 * (1 + b.q + angles) ≤ b.q * (1 + b.q + angles) = mul-le-mul_right (1 + b.q + angles) one in
    let four : 4 ≤ b.grain = for_grains (λ g. 4 ≤ g) b.grain h.grain (omega arith) (omega arith) (omega arith) in
    omega (arith, more, one, four, gate_count_is b.n b.q b.m b.grain h.qubits h.params h.grain)
