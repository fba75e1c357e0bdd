-- How often a rank stands among the first of rising ranks.
use Rattle.std.proofs.Common.{◌≡◌, ◌<◌, ◌≤◌, ℕ, zero, suc, ◌+◌, ◌⊎◌, inl, inr, cond, List, length, take, get_or, ◌==◌, refl, sym, ap, ◌∙◌, add-one, arith}
use Rattle.std.specs.List.{AllPairs}
use Rattle.std.proofs.lemmas.Bool.{cases_eq, eq-eqb, ne_eqb}
use Rattle.std.proofs.lemmas.List.Sums.{sum_by_more}
use Rattle.qz_core.specs.RoundMachine.{times}
use Rattle.qz_core.proofs.Counts.{same}

-- one rank more
pub times_next : (r n : ℕ) (list : List ℕ) → n < length list → times r (take (n + 1) list) ≡ times r (take n list) + same (get_or list n 0) r
times_next r n list h = sum_by_more (λ x. cond (x == r) 1 0) list n 0 h

times_more : (r n : ℕ) (list : List ℕ) → n < length list → times r (take (suc n) list) ≡ times r (take n list) + same (get_or list n 0) r
times_more r n list h = ap (λ m. times r (take m list)) (sym (add-one n)) ∙ times_next r n list h

-- where none of them is the rank
pub absent : (r n : ℕ) (list : List ℕ) → n ≤ length list → ((k : ℕ) → k < n → get_or list k 0 ≡ r → ⊥) → times r (take n list) ≡ 0
absent r zero list h none = refl
absent r (suc n) list h none =
    let other : same (get_or list n 0) r ≡ 0 = ap (λ b. cond b 1 0) (ne_eqb (get_or list n 0) r (none n (omega arith))) in
    omega (arith, times_more r n list (omega arith), absent r n list (omega arith) (λ k l. none k (omega arith)), other)

-- where it is there, it has a place
pub found : (r n : ℕ) (list : List ℕ) → n ≤ length list → 0 < times r (take n list) → (k : ℕ) × (k < n) × (get_or list k 0 ≡ r)
found r zero list h there = absurd (omega arith)
found r (suc n) list h there = by (cases_eq (get_or list n 0) r) (found r n list (omega arith))
  where
    by : (get_or list n 0 ≡ r) ⊎ (get_or list n 0 ≡ r → ⊥) → (0 < times r (take n list) → (k : ℕ) × (k < n) × (get_or list k 0 ≡ r)) → (k : ℕ) × (k < suc n) × (get_or list k 0 ≡ r)
    by (inl e) rest = (n, omega arith, e)
    by (inr other) rest =
        let none : same (get_or list n 0) r ≡ 0 = ap (λ b. cond b 1 0) (ne_eqb (get_or list n 0) r other) in
        let at = rest (omega (arith, times_more r n list (omega arith), none, there)) in
        (at.0, omega (arith, at.1), at.2)

-- each of rising ranks stands once
pub once : (list : List ℕ) (k n : ℕ) → AllPairs (λ x y. x < y) list → k < n → n ≤ length list → times (get_or list k 0) (take n list) ≡ 1
once list k zero up l h = absurd (omega arith)
once list k (suc n) up l h = by (cases_eq n k) (once list k n up)
  where
    by : (n ≡ k) ⊎ (n ≡ k → ⊥) → (k < n → n ≤ length list → times (get_or list k 0) (take n list) ≡ 1) → times (get_or list k 0) (take (suc n) list) ≡ 1
    by (inl e) rest =
        let here : same (get_or list n 0) (get_or list k 0) ≡ 1 = ap (λ b. cond b 1 0) (eq-eqb (get_or list n 0) (get_or list k 0) (ap (λ m. get_or list m 0) e)) in
        let before : times (get_or list k 0) (take n list) ≡ 0 = absent (get_or list k 0) n list (omega arith) (λ j m same. omega (arith, up j k 0 (omega arith) (omega arith), same)) in
        omega (arith, times_more (get_or list k 0) n list (omega arith), here, before)
    by (inr other) rest =
        let less : k < n = omega arith in
        let later : same (get_or list n 0) (get_or list k 0) ≡ 0 = ap (λ b. cond b 1 0) (ne_eqb (get_or list n 0) (get_or list k 0) (λ e. omega (arith, up k n 0 less (omega arith), e))) in
        omega (arith, times_more (get_or list k 0) n list (omega arith), rest less (omega arith), later)
