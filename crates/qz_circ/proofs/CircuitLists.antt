-- How many circuits there are of each length, and within limits.
use Rattle.std.proofs.Common.{◌≡◌, ◌<◌, ℕ, zero, suc, ◌+◌, ◌*◌, ◌^◌, ◌≤◌, List, [], ◌∷◌, map, length, refl, sym, ap, ◌∙◌, arith, length-append, add-one, zero-add}
use Rattle.std.proofs.lemmas.List.{length-map}
use Rattle.std.specs.List.{flat_map, range_with_len}
use Rattle.std.proofs.Math.Nat.{pow-zero, pow-succ', mul-le-mul_right}
use Rattle.qz_circ.specs.declared.circuit.Op.{Op}
use Rattle.qz_circ.specs.Circuit.{Limits, gates_of}
use Rattle.qz_circ.specs.Bounds.{gate_count}
use Rattle.qz_circ.specs.Order.{circuits_of, all_circuits}

-- pieces of one length, end to end
pub length_of_pieces : {A B : Type 0} (f : A → List B) (n : ℕ) → ((x : A) → length (f x) ≡ n) → (xs : List A) → length (flat_map f xs) ≡ length xs * n
length_of_pieces f n same [] = omega arith
length_of_pieces f n same (x ∷ xs) = omega (arith, length-append (f x) (flat_map f xs), same x, length_of_pieces f n same xs)

-- how many circuits there are of k gates
length-circuits_of : (gates : List Op) (k : ℕ) → length (circuits_of gates k) ≡ length gates ^ k
unfolding circuits_of
length-circuits_of gates zero = sym (pow-zero (length gates))
length-circuits_of gates (suc k) =
    let each : (g : Op) → length (map (λ c. g ∷ c) (circuits_of gates k)) ≡ length gates ^ k = λ g. length-map (circuits_of gates k) (λ c. g ∷ c) ∙ length-circuits_of gates k in
    length_of_pieces (λ g. map (λ c. g ∷ c) (circuits_of gates k)) (length gates ^ k) each gates ∙ sym (pow-succ' (length gates) k)

-- how many circuits there are of fewer than k gates, where there are so many gates to choose from
abbrev pub shorter : ℕ → ℕ → ℕ
shorter gates zero = 0
shorter gates (suc k) = shorter gates k + gates ^ k

-- how many circuits there are of the lengths from one on, beside the shorter ones
length_of_lengths : (gates : List Op) (from k : ℕ) → length (flat_map (circuits_of gates) (range_with_len from k)) + shorter (length gates) from ≡ shorter (length gates) (from + k)
length_of_lengths gates from zero = grind arith
length_of_lengths gates from (suc k) =
    let here = length-append (circuits_of gates from) (flat_map (circuits_of gates) (range_with_len (from + 1) k)) in
    let moved : from + 1 + k ≡ from + suc k = omega arith in
    let rest = length_of_lengths gates (from + 1) k in
    let next : shorter (length gates) (from + 1) ≡ shorter (length gates) from + length gates ^ from = rw add-one refl in
    grind (arith, here, moved, rest, next, length-circuits_of gates from)

-- how many circuits there are within limits
pub length-all_circuits : (b : Limits) → length (all_circuits b) ≡ shorter (gate_count b) (suc b.n)
unfolding all_circuits gate_count
length-all_circuits b = omega (arith, length_of_lengths (gates_of b) 0 (suc b.n), ap (shorter (length (gates_of b))) (zero-add (suc b.n)))

-- with nine gates or more to choose from, there are not many more shorter circuits than those of the greatest length
shorter_few : (gates n : ℕ) → 9 ≤ gates → 8 * shorter gates (suc n) < 9 * gates ^ n
shorter_few gates zero h = omega (arith, pow-zero gates)
shorter_few gates (suc n) h =
    let few = shorter_few gates n h in
    let more : 9 * gates ^ n ≤ gates * gates ^ n = omega (arith, mul-le-mul_right (gates ^ n) h) in
    omega (arith, few, more, pow-succ' gates n)

-- the number of circuits within limits is below nine eighths of the number of those of the greatest length
pub few_circuits : (gates n most : ℕ) → 9 ≤ gates → gates ^ n ≤ 8 * most → shorter gates (suc n) < 9 * most
few_circuits gates n most h few = omega (arith, shorter_few gates n h)
