-- Matrices of circuits: the start, and one more gate.
use Rattle.std.proofs.Common.{◌≡◌, ℕ, ◌+◌, ◌*◌, ◌/◌, ◌%◌, ◌^◌, ◌<◌, ◌≤◌, ◌==◌, ◌&&◌, Bool, true, false, List, [], ◌∷◌, ◌++◌, length, cond, refl, sym, ap, ◌∙◌, arith, add-one}
use Rattle.std.specs.Prelude.{pos, if◌then◌else◌, ◌+ℤ◌, ◌-ℤ◌}
use Rattle.std.specs.Ordering.{int_eq}
use Rattle.std.proofs.Math.Nat.{pow-suc, pow-le-pow_right}
use Rattle.std.proofs.lemmas.List.{length_push}
use Rattle.std.proofs.lemmas.List.Sums.{sum_by_push}
use Rattle.std.proofs.lemmas.Nat.{div-mul-add, mod-mul-add}
use Rattle.qz_circ.specs.declared.circuit.Op.{Op}
use Rattle.qz_circ.specs.Circuit.{Circuit, ActsBelow}
use Rattle.qz_circ.specs.Exponent.{same_exponent}
use Rattle.qz_circ.specs.Paths.{is_h, halves as halves_of}
use Rattle.qz_circ.proofs.PathCounts.{count_of_one, count_no_gate}
use Rattle.qz_ring.specs.Exponent.{Exponent as Monomial, zero_exponent as no_monomial, same_exponent as same_monomial, with_turns}
use Rattle.std.proofs.lemmas.Int.{ints}
use Rattle.qz_ring.specs.Terms.{Terms, count, weight_of, largest_reach}
use Rattle.qz_matrix.specs.Entries.{Entries, sum_at, place_of, exponent_of, StandsFor, WeightsAtMost, IsMatrix}
use Rattle.qz_matrix.specs.AfterGate.{IsAfterGate, IsIdentity, identity_entry}
use Rattle.qz_matrix.proofs.PlaceLemmas.{place_below}
use Rattle.qz_matrix.proofs.AfterGateLemmas.{counts_after_gate}

-- the matrix after one more gate, with these entries
abbrev pub after : Entries → Op → List Terms → Entries
after m op new = record { q = m.q; gates = m.gates + 1; halves = m.halves + (if is_h op then 1 else 0); sums = new }

-- a gate keeps what holds of every matrix
pub matrix_after_gate : (m : Entries) (op : Op) (new : List Terms) → m.gates < 100 → IsMatrix m → IsAfterGate op m.sums new → IsMatrix (after m op new)
matrix_after_gate m op new few is next = record {
  some_qubits = is.some_qubits;
  few_qubits = is.few_qubits;
  few_gates = omega arith;
  halves = omega (arith, is.halves, at_most_one (is_h op));
  size = next.size ∙ is.size;
  weights = λ k less. omega (arith, (next.each k (omega (arith, next.size))).weight (2 ^ m.gates) is.weights, pow-suc 2 m.gates, ap (λ n. 2 ^ n) (add-one m.gates));
  reaches = λ k less. (next.each k (omega (arith, next.size))).reach m.gates is.reaches;
}
  where
    at_most_one : (b : Bool) → (if b then 1 else 0) ≤ 1
    at_most_one true = omega arith
    at_most_one false = omega arith

-- the weights of a matrix leave room for one more gate
pub matrix_weights : (m : Entries) → IsMatrix m → WeightsAtMost (2 ^ 100) m.sums
matrix_weights m is k less =
    let power : 2 ^ m.gates ≤ 2 ^ 100 = pow-le-pow_right {n = 2} (omega arith) is.few_gates in
    omega (arith, is.weights k less, power)

-- a gate leaves a matrix that stands for the circuit with it
pub stands_after_gate : (m : Entries) (op : Op) (new : List Terms) (c : Circuit) → ActsBelow m.q op → length m.sums ≡ 2 ^ m.q * 2 ^ m.q → IsAfterGate op m.sums new → StandsFor m c → StandsFor (after m op new) (c ++ op ∷ [])
stands_after_gate m op new c acts size next is = record {
  gates = omega (arith, is.gates, length_push c op);
  halves = omega (arith, is.halves, halves_push c);
  entries = counts_after_gate m.q c op m.sums new acts size next is.entries;
}
  where
    halves_push : (c : Circuit) → halves_of (c ++ op ∷ []) ≡ halves_of c + (if is_h op then 1 else 0)
    halves_push c = sum_by_push (λ (g : Op). cond (is_h g) 1 0) c op

-- four tests, grouped from the left or from the right
regroup : (a b c d : Bool) → (a && (b && (c && d))) ≡ (((a && b) && c) && d)
regroup true true true d = refl
regroup true true false d = refl
regroup true false c d = refl
regroup false b c d = refl

-- both crates' tests of exponents agree
same_agree : (m e : Monomial) → same_monomial m e ≡ same_exponent (exponent_of m) (exponent_of e)
same_agree m e = regroup (m.turn == e.turn) (int_eq m.x0 e.x0) (int_eq m.x1 e.x1) (int_eq m.x2 e.x2)

-- an entry of no gate
abbrev entry_if : Bool → Terms
entry_if b = if b then record { exponent = no_monomial; coefficient = pos 1 } ∷ [] else []

-- it counts what the number 1 counts, or nothing
count_if : (b : Bool) (e : Monomial) → count (entry_if b) e ≡ (if b then count_of_one (exponent_of e) else pos 0)
count_if true e =
    ones (same_monomial no_monomial e) _ (same_monomial no_monomial (with_turns e 256)) _ (same_agree no_monomial e) (same_agree no_monomial (with_turns e 256))
  where
    ones : (a b c d : Bool) → a ≡ b → c ≡ d → ((if a then pos 1 else pos 0) +ℤ pos 0) -ℤ ((if c then pos 1 else pos 0) +ℤ pos 0) ≡ (if b then pos 1 else pos 0) -ℤ (if d then pos 1 else pos 0)
    ones a b c d h k = omega (arith, ints, ap (λ x. if x then pos 1 else pos 0) h, ap (λ x. if x then pos 1 else pos 0) k)
count_if false e = refl

-- its weight is at most 1, and it has no power
small_if : (b : Bool) → (weight_of (entry_if b) ≤ 1) × (largest_reach (entry_if b) ≤ 0)
small_if true = (omega arith, omega arith)
small_if false = (omega arith, omega arith)

-- the matrix of no gate
abbrev pub start : ℕ → List Terms → Entries
start q sums = record { q = q; gates = 0; halves = 0; sums = sums }

-- what holds of every matrix holds of it
pub matrix_start : (q : ℕ) (sums : List Terms) → 1 ≤ q → q ≤ 3 → IsIdentity (2 ^ q) sums → IsMatrix (start q sums)
matrix_start q sums some few is = record {
  some_qubits = some;
  few_qubits = few;
  few_gates = omega arith;
  halves = omega arith;
  size = is.size;
  weights = λ k less. omega (arith, ap weight_of (is.each k (omega (arith, is.size))), (small_if (k % 2 ^ q == k / 2 ^ q)).0);
  reaches = λ k less. omega (arith, ap largest_reach (is.each k (omega (arith, is.size))), (small_if (k % 2 ^ q == k / 2 ^ q)).1);
}

-- and it stands for the circuit of no gate
pub stands_start : (q : ℕ) (sums : List Terms) → IsIdentity (2 ^ q) sums → StandsFor (start q sums) []
stands_start q sums is = record {
  gates = refl;
  halves = refl;
  entries = λ i j row column e he.
      let rows : place_of q i j % 2 ^ q ≡ i = mod-mul-add j (2 ^ q) i row in
      let columns : place_of q i j / 2 ^ q ≡ j = div-mul-add j (2 ^ q) i row in
      let here : sum_at sums (place_of q i j) ≡ identity_entry i j = is.each (place_of q i j) (place_below q i j row column) ∙ (λ d. identity_entry (rows d) (columns d)) in
      ap (λ (ts : Terms). count ts e) here ∙ count_if (i == j) e ∙ sym (count_no_gate q i j (exponent_of e));
}
