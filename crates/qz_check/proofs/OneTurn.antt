-- Programs are equivalent exactly where one turn takes the matrix of the one to that of the other, times √2 for each H that it has fewer.
use Rattle.std.proofs.Common.{◌≡◌, ℕ, ◌+◌, ◌-◌, ◌^◌, ◌<◌, Bool, true, false, map, refl, sym, ap, ◌∙◌, arith}
use Rattle.std.specs.Prelude.{◌↔◌, IsTrue, pos}
use Rattle.std.specs.List.{AllByRecursion}
use Rattle.qz_circ.specs.Exponent.{Exponent, IsExponent, minus, turn_of}
use Rattle.qz_circ.specs.Paths.{count, root2}
use Rattle.qz_circ.specs.ProgramCircuits.{ProgramCircuit, IsProgramGate, program_entry, program_paths, program_halves, scaled_program_ways, EquivalentProgramCircuits}
use Rattle.qz_circ.proofs.Exponents.{exponent_eq}
use Rattle.qz_circ.proofs.ProperWays.{proper_program_paths}
use Rattle.qz_circ.proofs.RuleGates.{as_program_gate, program_entry_ways}
use Rattle.qz_circ.proofs.Roots.{Shifted, roots, root2-add, proper_root2, shifted_root2, unshifted_root2, count_roots}
use Rattle.qz_paths.proofs.Runs.{run, start, same_goes_over, roots_along, counts_along}
use Rattle.qz_paths.proofs.Congruence.{program_gates}
use Rattle.qz_paths.proofs.Equivalences.{program_symmetric}
use Rattle.qz_check.specs.Turns.{IsTurnedEntry, IsTurnedColumn, HasTurn}
use Rattle.qz_check.proofs.Plain.{is_plain, less_turns, plain_turn, IsPlain, plain_start, plain_run, plain_roots, turn_for, turn_for_below, phase_is_a_turn}

-- what the ways through a program count, by its gates
pub counts_of_program : (q : ℕ) (c : ProgramCircuit) (i j : ℕ) (e : Exponent) → AllByRecursion (IsProgramGate q) c → i < 2 ^ q → IsExponent e → count (program_paths q c i j) e ≡ run (map as_program_gate c) (start j) i e
unfolding program_paths
counts_of_program q c i j e are hi he = counts_along program_entry as_program_gate program_entry_ways q c i j e (program_gates q c are) hi he

-- the same, times a power of √2
pub rooted_counts : (q d : ℕ) (c : ProgramCircuit) (i j : ℕ) (e : Exponent) → AllByRecursion (IsProgramGate q) c → i < 2 ^ q → IsExponent e → count (root2 d (program_paths q c i j)) e ≡ roots d (run (map as_program_gate c) (start j) i) e
rooted_counts q d c i j e are hi he =
    count_roots d (program_paths q c i j) e (proper_program_paths q c i j) he ∙
    roots_along (λ x. x) same_goes_over d (count (program_paths q c i j)) (run (map as_program_gate c) (start j) i) (λ x hx. counts_of_program q c i j x are hi hx) e he

-- nothing is counted at exponents with a power
plain_program : (q : ℕ) (c : ProgramCircuit) (i j : ℕ) (e : Exponent) → AllByRecursion (IsProgramGate q) c → i < 2 ^ q → IsExponent e → is_plain e ≡ false → count (program_paths q c i j) e ≡ pos 0
plain_program q c i j e are hi he power = counts_of_program q c i j e are hi he ∙ plain_run c (start j) (plain_start j) i e he power

-- nor times a power of √2
plain_counts : (q d : ℕ) (c : ProgramCircuit) (i j : ℕ) → AllByRecursion (IsProgramGate q) c → i < 2 ^ q → IsPlain (count (root2 d (program_paths q c i j)))
plain_counts q d c i j are hi e he power =
    rooted_counts q d c i j e are hi he ∙
    plain_roots d (run (map as_program_gate c) (start j) i) (plain_run c (start j) (plain_start j) i) e he power

-- an exponent with no power, less some turns
turn_less : (e : Exponent) (t : ℕ) → t < 512 → IsExponent e → is_plain e ≡ true → minus e (turn_of t) ≡ turn_of (e.turn + (512 - t))
turn_less e t less he plain =
    ap (λ f. minus f (turn_of t)) (sym (plain_turn e he plain)) ∙
    exponent_eq (minus (turn_of e.turn) (turn_of t)) (turn_of (e.turn + (512 - t))) (omega arith) refl refl refl

-- turns less some turns
pub turns_less : (n t : ℕ) → t < 512 → minus (turn_of n) (turn_of t) ≡ turn_of (n + (512 - t))
turns_less n t less = exponent_eq (minus (turn_of n) (turn_of t)) (turn_of (n + (512 - t))) (omega arith) refl refl refl

module _ (q d : ℕ) (a c : ProgramCircuit) (are_a : AllByRecursion (IsProgramGate q) a) (are_c : AllByRecursion (IsProgramGate q) c) where
  -- entries that a turn takes to each other differ by it
  shifted_entry : (t i j : ℕ) → t < 512 → i < 2 ^ q → IsTurnedEntry q d t a c j i → Shifted (turn_of t) (program_paths q a i j) (root2 d (program_paths q c i j))
  shifted_entry t i j less hi is e he = by (is_plain e) refl
    where
      less_proper : IsExponent (minus e (turn_of t))
      less_proper = omega arith

      by : (b : Bool) → is_plain e ≡ b → count (program_paths q a i j) e ≡ count (root2 d (program_paths q c i j)) (minus e (turn_of t))
      by true plain =
          ap (count (program_paths q a i j)) (sym (plain_turn e he plain)) ∙ is e.turn ∙
          ap (count (root2 d (program_paths q c i j))) (sym (turn_less e t less he plain))
      by false power = plain_program q a i j e are_a hi he power ∙ sym (plain_counts q d c i j are_c hi (minus e (turn_of t)) less_proper (less_turns e t ∙ power))

  -- and back
  turned_entry : (t i j : ℕ) → t < 512 → Shifted (turn_of t) (program_paths q a i j) (root2 d (program_paths q c i j)) → IsTurnedEntry q d t a c j i
  turned_entry t i j less shifted n = shifted (turn_of n) (omega arith) ∙ ap (count (root2 d (program_paths q c i j))) (turns_less n t less)

  -- both powers of √2
  both_powers : (i j : ℕ) → program_halves a ≡ program_halves c + d → root2 (program_halves a) (program_paths q c i j) ≡ root2 (program_halves c) (root2 d (program_paths q c i j))
  both_powers i j is = ap (λ k. root2 k (program_paths q c i j)) is ∙ root2-add (program_halves c) d (program_paths q c i j)

  -- a turn that takes the one matrix to the other is a phase
  to_equivalent : program_halves a ≡ program_halves c + d → HasTurn q d a c → EquivalentProgramCircuits q a c
  unfolding scaled_program_ways IsTurnedColumn
  to_equivalent is (t, less, turned) = (
    turn_of t,
    record {
      phase = omega arith;
      counts = λ i j e hi hj he.
          shifted_root2 (program_halves c) (turn_of t) (program_paths q a i j) (root2 d (program_paths q c i j)) (proper_program_paths q a i j) (proper_root2 d (program_paths q c i j) (proper_program_paths q c i j))
          (shifted_entry t i j less hi (turned j hj i hi)) e he ∙
          sym (ap (λ ps. count ps (minus e (turn_of t))) (both_powers i j is));
    },
  )

  -- a phase is a turn
  from_equivalent : program_halves a ≡ program_halves c + d → EquivalentProgramCircuits q a c → HasTurn q d a c
  unfolding scaled_program_ways IsTurnedColumn
  from_equivalent is (u, same) = (
    turn_for u,
    turn_for_below u same.phase,
    λ j hj i hi.
        turned_entry (turn_for u) i j (turn_for_below u same.phase)
        (phase_is_a_turn u (count (program_paths q a i j)) (count (root2 d (program_paths q c i j))) same.phase
        (λ e he power. plain_program q a i j e are_a hi he power) (plain_counts q d c i j are_c hi)
        (unshifted_root2 (program_halves c) u (program_paths q a i j) (root2 d (program_paths q c i j)) (proper_program_paths q a i j) (proper_root2 d (program_paths q c i j) (proper_program_paths q c i j))
        (λ e he. same.counts i j e hi hj he ∙ ap (λ ps. count ps (minus e u)) (both_powers i j is)))),
  )

-- programs are equivalent exactly where some turn takes the one matrix to the other
pub equivalence_is_one_turn : (q d : ℕ) (a c : ProgramCircuit) → AllByRecursion (IsProgramGate q) a → AllByRecursion (IsProgramGate q) c → program_halves a ≡ program_halves c + d → (HasTurn q d a c ↔ EquivalentProgramCircuits q a c)
equivalence_is_one_turn q d a c are_a are_c is = (to_equivalent q d a c are_a are_c is, from_equivalent q d a c are_a are_c is)

-- the answer on turns is the answer on programs
pub decided : (q d : ℕ) (a c : ProgramCircuit) (same : Bool) → AllByRecursion (IsProgramGate q) a → AllByRecursion (IsProgramGate q) c → program_halves a ≡ program_halves c + d → (IsTrue same ↔ HasTurn q d a c) → (IsTrue same ↔ EquivalentProgramCircuits q a c)
decided q d a c same are_a are_c is told =
    let equivalent = equivalence_is_one_turn q d a c are_a are_c is in
    (λ h. equivalent.0 (told.0 h), λ h. told.1 (equivalent.1 h))

-- and so it is in the other order, since equivalence goes both ways
pub decided_swapped : (q d : ℕ) (a c : ProgramCircuit) (same : Bool) → AllByRecursion (IsProgramGate q) a → AllByRecursion (IsProgramGate q) c → program_halves c ≡ program_halves a + d → (IsTrue same ↔ HasTurn q d c a) → (IsTrue same ↔ EquivalentProgramCircuits q a c)
decided_swapped q d a c same are_a are_c is told =
    let swapped = decided q d c a same are_c are_a is told in
    (λ h. program_symmetric q c a (swapped.0 h), λ h. swapped.1 (program_symmetric q a c h))
