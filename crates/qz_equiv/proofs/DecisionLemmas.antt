-- Circuits are equivalent exactly where some monomial takes one matrix to the other.
use Rattle.std.proofs.Common.{◌≡◌, ℕ, zero, suc, ◌+◌, ◌-◌, ◌^◌, ◌<◌, ◌≤◌, List, Bool, sym, ap, subst, ◌∙◌, arith}
use Rattle.std.specs.Prelude.{◌-ℤ◌, ◌↔◌, IsTrue}
use Rattle.qz_circ.specs.Circuit.{Circuit}
use Rattle.qz_circ.specs.Exponent.{Exponent, minus as minus_exponent}
use Rattle.qz_circ.specs.Paths.{Path, count as path_count, paths, root2, halves}
use Rattle.qz_circ.specs.Equivalence.{scaled_ways, Equivalent}
use Rattle.qz_circ.proofs.SignedWays.{AreProper}
use Rattle.qz_circ.proofs.ProperWays.{proper_paths}
use Rattle.qz_circ.proofs.Roots.{Shifted, root2-add, proper_root2, shifted_root2, unshifted_root2, count_roots, roots as path_roots}
use Rattle.qz_ring.specs.Exponent.{Exponent as Monomial, IsExponent as IsMonomial, minus, turn_alone}
use Rattle.qz_ring.specs.Terms.{Terms, count}
use Rattle.qz_matrix.specs.Entries.{Entries, entry_at, exponent_of, HasCounts, StandsFor}
use Rattle.qz_matrix.specs.AfterGate.{monomial_of}
use Rattle.qz_equiv.specs.Phases.{roots, IsMultiple, HasPhase}
use Rattle.qz_paths.proofs.Equivalences.{symmetric}

-- a sum with the counts of ways has those of the ways times a power of √2, times that power
roots_agree : (d : ℕ) (ways : List Path) (ts : Terms) → HasCounts ways ts → (e : Monomial) → IsMonomial e → roots d (count ts) e ≡ path_roots d (path_count ways) (exponent_of e)
unfolding roots
roots_agree zero ways ts is e he = is e he
roots_agree (suc d) ways ts is e he =
    let low = roots_agree d ways ts is (minus e (turn_alone 64)) (omega arith) in
    let high = roots_agree d ways ts is (minus e (turn_alone 192)) (omega arith) in
    (λ k. low k -ℤ high k)

-- the same, of the ways themselves
roots_of_ways : (d : ℕ) (ways : List Path) (ts : Terms) → AreProper ways → HasCounts ways ts → (e : Monomial) → IsMonomial e → roots d (count ts) e ≡ path_count (root2 d ways) (exponent_of e)
roots_of_ways d ways ts proper is e he = roots_agree d ways ts is e he ∙ sym (count_roots d ways (exponent_of e) proper he)

-- ways times both powers of √2
both_powers : (n h d : ℕ) (ways : List Path) → n ≡ h + d → root2 n ways ≡ root2 h (root2 d ways)
both_powers n h d ways is = ap (λ k. root2 k ways) is ∙ root2-add h d ways

-- where ways are shifted once both owe the same roots, the sums are multiples, since the roots that both owe cancel
to_multiple : (n h d : ℕ) (u : Exponent) (a c : List Path) (x y : Terms) → n ≡ h + d → AreProper a → AreProper c → HasCounts a x → HasCounts c y → Shifted u (root2 h a) (root2 n c) → IsMultiple d (monomial_of u) x y
to_multiple n h d u a c x y is pa pc first second same e he =
    let less : Shifted u a (root2 d c) = unshifted_root2 h u a (root2 d c) pa (proper_root2 d c pc) (λ f hf. same f hf ∙ ap (λ ps. path_count ps (minus_exponent f u)) (both_powers n h d c is)) in
    first e he ∙ less (exponent_of e) he ∙ sym (roots_of_ways d c y pc second (minus e (monomial_of u)) (omega arith))

-- and the other way round
from_multiple : (n h d : ℕ) (u : Monomial) (a c : List Path) (x y : Terms) → n ≡ h + d → AreProper a → AreProper c → HasCounts a x → HasCounts c y → IsMultiple d u x y → Shifted (exponent_of u) (root2 h a) (root2 n c)
from_multiple n h d u a c x y is pa pc first second same e he =
    let less : Shifted (exponent_of u) a (root2 d c) = λ f hf. sym (first (monomial_of f) hf) ∙ same (monomial_of f) hf ∙ roots_of_ways d c y pc second (minus (monomial_of f) u) (omega arith) in
    shifted_root2 h (exponent_of u) a (root2 d c) pa (proper_root2 d c pc) less e he ∙ sym (ap (λ ps. path_count ps (minus_exponent e (exponent_of u))) (both_powers n h d c is))

-- the entries of a matrix on as many qubits as another
entries_on : (q : ℕ) (y : Entries) (c : Circuit) → y.q ≡ q → StandsFor y c → (i j : ℕ) → i < 2 ^ q → j < 2 ^ q → HasCounts (paths q c i j) (entry_at y i j)
entries_on q y c same is = subst (λ p. (i j : ℕ) → i < 2 ^ p → j < 2 ^ p → HasCounts (paths p c i j) (entry_at y i j)) same is.entries

-- the circuits of two matrices, of which the first has d halves more, are equivalent exactly where the first is a monomial times the second, times √2 as often as d says
equivalent_matrices : (d : ℕ) (x y : Entries) (a c : Circuit) → y.q ≡ x.q → x.halves ≡ y.halves + d → StandsFor x a → StandsFor y c → (Equivalent x.q a c ↔ HasPhase d x y)
unfolding scaled_ways
equivalent_matrices d x y a c qubits more first second =
    let both : halves a ≡ halves c + d = omega (arith, first.halves, second.halves) in
    let entries = entries_on x.q y c qubits second in (
      λ h. (
        monomial_of h.0,
        h.1.phase,
        λ j column i row.
            to_multiple (halves a) (halves c) d h.0 (paths x.q a i j) (paths x.q c i j) (entry_at x i j) (entry_at y i j) both (proper_paths x.q a i j) (proper_paths x.q c i j) (first.entries i j row column) (entries i j row column) (λ e he. h.1.counts i j e row column he),
      ),
      λ h. (
        exponent_of h.0,
        record {
          phase = h.1;
          counts = λ i j e row column. from_multiple (halves a) (halves c) d h.0 (paths x.q a i j) (paths x.q c i j) (entry_at x i j) (entry_at y i j) both (proper_paths x.q a i j) (proper_paths x.q c i j) (first.entries i j row column) (entries i j row column) (h.2 j column i row) e;
        },
      ),
    )

-- the answer on matrices is the answer on circuits
pub decided : (x y : Entries) (a c : Circuit) (same : Bool) → y.q ≡ x.q → y.halves ≤ x.halves → (IsTrue same ↔ HasPhase (x.halves - y.halves) x y) → StandsFor x a → StandsFor y c → (IsTrue same ↔ Equivalent x.q a c)
decided x y a c same qubits more told first second =
    let equivalent = equivalent_matrices (x.halves - y.halves) x y a c qubits (omega arith) first second in
    (λ h. equivalent.1 (told.0 h), λ h. told.1 (equivalent.0 h))

-- and so it is in the other order, since equivalence goes both ways
pub decided_swapped : (x y : Entries) (a c : Circuit) (same : Bool) → y.q ≡ x.q → x.halves ≤ y.halves → (IsTrue same ↔ HasPhase (y.halves - x.halves) y x) → StandsFor x a → StandsFor y c → (IsTrue same ↔ Equivalent x.q a c)
decided_swapped x y a c same qubits more told first second =
    let swapped : IsTrue same ↔ Equivalent x.q c a = subst (λ q. IsTrue same ↔ Equivalent q c a) qubits (decided y x c a same (sym qubits) more told second first) in
    (λ h. symmetric x.q c a (swapped.0 h), λ h. swapped.1 (symmetric x.q a c h))
