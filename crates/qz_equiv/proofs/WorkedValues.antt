-- Circuits that are equivalent, some of them by a phase that is a parameter; circuits that aren't; and one that isn't kept.
use Rattle.std.proofs.Common.{◌≡◌, ℕ, zero, suc, ◌+◌, ◌-◌, ◌%◌, ◌<◌, [], ◌∷◌, ◌++◌, ◌⊎◌, inl, inr, Bool, true, false, ap, sym, ◌∙◌, subst, refl, arith}
use Rattle.std.specs.Prelude.{pos, negsuc, ◌+ℤ◌, ◌-ℤ◌, if◌then◌else◌}
use Rattle.std.proofs.lemmas.Int.{ints}
use Rattle.qz_circ.specs.declared.circuit.Expr.{Expr}
use Rattle.qz_circ.specs.declared.circuit.Expr.TheVariants.{Const, Plus, Minus, Sum}
use Rattle.qz_circ.specs.declared.circuit.Op.TheVariants.{X, Rz}
use Rattle.qz_circ.specs.Circuit.{Circuit, Limits}
use Rattle.qz_circ.specs.Exponent.{Exponent, IsExponent, zero_exponent, plus, minus, param, angle_exponent, same_exponent, with_turns}
use Rattle.qz_circ.specs.Paths.{count, total, paths, ways_through, entry, identity_ways, ways_along, root2_once, root2}
use Rattle.qz_circ.specs.Equivalence.{scaled_ways, Equivalent}
use Rattle.qz_circ.specs.Classes.{IsRepresentative, IsKept}
use Rattle.qz_circ.specs.Order.{gate_cmp, circuit_cmp}
use Rattle.qz_circ.proofs.Exponents.{exponent_eq, minus-zero, Decides-same_exponent}
use Rattle.qz_circ.specs.declared.circuit.Inst.TheVariants.{H as ProgramH}
use Rattle.qz_circ.specs.ProgramCircuits.{ProgramCircuit, program_entry, program_paths, scaled_program_ways, EquivalentProgramCircuits}
use Rattle.qz_circ.proofs.SignedWays.{one_way}
use Rattle.qz_circ.proofs.Totals.{count-append, count-times_one, count-root2_twice}
use Rattle.qz_paths.proofs.Equivalences.{symmetric}
use Rattle.qz_paths.proofs.OneQubit.{same_ways, two_flips}

-- a flip and then a turn by the parameter, and a turn by its negative and then a flip
abbrev flip_first : Circuit
flip_first = X 0 ∷ Rz 0 (Plus 0) ∷ []

-- a turn by the negative of the parameter and then a flip
abbrev flip_last : Circuit
flip_last = Rz 0 (Minus 0) ∷ X 0 ∷ []

-- the same counts, but for the parameter
flip_counts : (i j : ℕ) (e : Exponent) → i < 2 → j < 2 → IsExponent e → count (scaled_ways 1 flip_first flip_last i j) e ≡ count (scaled_ways 1 flip_last flip_first i j) (minus e (param 0))
unfolding scaled_ways root2 paths ways_along ways_through identity_ways entry count total
flip_counts zero zero e hi hj he = refl
flip_counts zero (suc zero) e hi hj he = count-times_one false (param 0) (record { sign = pos 1; exponent = minus zero_exponent (param 0) } ∷ []) e (omega arith, tt) (omega arith) he
flip_counts (suc zero) zero e hi hj he = count-times_one false (param 0) (record { sign = pos 1; exponent = zero_exponent } ∷ []) e (omega arith, tt) (omega arith) he
flip_counts (suc zero) (suc zero) e hi hj he = refl
flip_counts (suc (suc i)) j e hi hj he = absurd (omega arith)
flip_counts i (suc (suc j)) e hi hj he = absurd (omega arith)

-- the phase is the parameter
pub flip_equivalent : Equivalent 1 (X 0 ∷ Rz 0 (Plus 0) ∷ []) (Rz 0 (Minus 0) ∷ X 0 ∷ [])
flip_equivalent = (param 0, record { phase = omega arith; counts = flip_counts })

-- a count of 1 at a single way says that the exponent is the way's
counted_once : (s t : Bool) → pos 1 ≡ ((if s then pos 1 else pos 0) +ℤ pos 0) -ℤ ((if t then pos 1 else pos 0) +ℤ pos 0) → s ≡ true
counted_once true t h = refl
counted_once false true h = cc
counted_once false false h = cc

-- a phase that takes 1 to 1 is 1
phase_one : (u : Exponent) → IsExponent u → zero_exponent ≡ minus zero_exponent u → u ≡ zero_exponent
phase_one u hu h =
    let turn : 0 ≡ (0 + (512 - u.turn)) % 512 = ap (λ (x : Exponent). x.turn) h in
    let x0 : pos 0 ≡ pos 0 -ℤ u.x0 = ap (λ (x : Exponent). x.x0) h in
    let x1 : pos 0 ≡ pos 0 -ℤ u.x1 = ap (λ (x : Exponent). x.x1) h in
    let x2 : pos 0 ≡ pos 0 -ℤ u.x2 = ap (λ (x : Exponent). x.x2) h in
    exponent_eq u zero_exponent (omega arith) (omega (arith, ints)) (omega (arith, ints)) (omega (arith, ints))

-- rotations aren't equivalent where the first exponent is counted in the first and not in the second
rotations_different : (a b : Expr) → IsExponent (angle_exponent a) →
    count (record { sign = pos 1; exponent = plus zero_exponent (angle_exponent a) } ∷ []) (angle_exponent a) ≡ pos 1 →
    count (record { sign = pos 1; exponent = plus zero_exponent (angle_exponent b) } ∷ []) (minus (angle_exponent a) zero_exponent) ≡ pos 0 →
    Equivalent 1 (Rz 0 a ∷ []) (Rz 0 b ∷ []) → ⊥
unfolding scaled_ways root2 paths ways_along ways_through identity_ways entry count total
rotations_different a b proper counted uncounted h =
    let at_zero = h.1.counts 0 0 zero_exponent (omega arith) (omega arith) (omega arith) in
    let same = counted_once (same_exponent zero_exponent (minus zero_exponent h.0)) (same_exponent zero_exponent (with_turns (minus zero_exponent h.0) 256)) at_zero in
    let one = phase_one h.0 h.1.phase ((Decides-same_exponent zero_exponent (minus zero_exponent h.0)).0 same) in
    let at_one = subst (λ (u : Exponent). count (record { sign = pos 1; exponent = plus zero_exponent (angle_exponent a) } ∷ []) (angle_exponent a) ≡ count (record { sign = pos 1; exponent = plus zero_exponent (angle_exponent b) } ∷ []) (minus (angle_exponent a) u)) one (h.1.counts 1 1 (angle_exponent a) (omega arith) (omega arith) proper) in
    absurd (one_zero (sym counted ∙ at_one ∙ uncounted))
  where
    one_zero : pos 1 ≡ pos 0 → ⊥
    one_zero h = cc

-- by two different constants
pub turns_different : Equivalent 1 (Rz 0 (Const 1) ∷ []) (Rz 0 (Const 2) ∷ []) → ⊥
unfolding count total
turns_different = rotations_different (Const 1) (Const 2) (omega arith) refl refl

-- and by two different parameters
pub parameters_different : Equivalent 1 (Rz 0 (Plus 0) ∷ []) (Rz 0 (Plus 1) ∷ []) → ⊥
unfolding count total
parameters_different = rotations_different (Plus 0) (Plus 1) (omega arith) refl refl

-- rotations by two parameters, and one by their sum
abbrev parameters_in_turn : Circuit
parameters_in_turn = Rz 0 (Plus 0) ∷ Rz 0 (Plus 1) ∷ []

abbrev sum_at_once : Circuit
sum_at_once = Rz 0 (Sum 0 1) ∷ []

-- by the phase 1
pub sum_equivalent : Equivalent 1 (Rz 0 (Plus 0) ∷ Rz 0 (Plus 1) ∷ []) (Rz 0 (Sum 0 1) ∷ [])
unfolding scaled_ways root2 paths ways_along ways_through identity_ways entry
sum_equivalent = (zero_exponent, same_ways (scaled_ways 1 parameters_in_turn sum_at_once) (scaled_ways 1 sum_at_once parameters_in_turn) refl refl refl refl)

abbrev three_gates : Limits
three_gates = record { n = 3; q = 1; m = 0; grain = 4 }

-- two flips are no representative
flips_not_first : IsRepresentative three_gates (X 0 ∷ X 0 ∷ []) → ⊥
unfolding circuit_cmp gate_cmp
flips_not_first h = h.first [] (record { short = omega arith; gates = tt }) refl (symmetric 1 (X 0 ∷ X 0 ∷ []) [] two_flips)

-- so three are not kept
pub flips_not_kept : IsKept (record { n = 3; q = 1; m = 0; grain = 4 }) (X 0 ∷ X 0 ∷ X 0 ∷ []) → ⊥
flips_not_kept h = not_both h.parts
  where
    not_both : (X 0 ∷ X 0 ∷ X 0 ∷ [] ≡ []) ⊎ (IsRepresentative three_gates (X 0 ∷ X 0 ∷ []) × IsRepresentative three_gates (X 0 ∷ X 0 ∷ [])) → ⊥
    not_both (inl e) = cc
    not_both (inr parts) = flips_not_first parts.0

-- a way and the same with the other sign count nothing
cancelled : (e : Exponent) → count (one_way false zero_exponent ++ one_way true zero_exponent) e ≡ count [] e
unfolding count total
cancelled e = none (same_exponent zero_exponent e) (same_exponent zero_exponent (with_turns e 256))
  where
    none : (s t : Bool) → ((if s then pos 1 else pos 0) +ℤ ((if s then negsuc 0 else pos 0) +ℤ pos 0)) -ℤ ((if t then pos 1 else pos 0) +ℤ ((if t then negsuc 0 else pos 0) +ℤ pos 0)) ≡ pos 0
    none true true = refl
    none true false = refl
    none false true = refl
    none false false = refl

-- two H of a program
abbrev two_h : ProgramCircuit
two_h = ProgramH 0 ∷ ProgramH 0 ∷ []

-- they count what no gate counts times two
two_h_counts : (i j : ℕ) (e : Exponent) → i < 2 → j < 2 → IsExponent e → count (scaled_program_ways 1 two_h [] i j) e ≡ count (scaled_program_ways 1 [] two_h i j) e
unfolding scaled_program_ways root2 root2_once program_paths ways_along ways_through identity_ways program_entry entry
two_h_counts zero zero e hi hj he = count-append (one_way false zero_exponent) (one_way false zero_exponent) e ∙ sym (count-root2_twice (one_way false zero_exponent) e (omega arith, tt) he)
two_h_counts zero (suc zero) e hi hj he = cancelled e
two_h_counts (suc zero) zero e hi hj he = cancelled e
two_h_counts (suc zero) (suc zero) e hi hj he = count-append (one_way false zero_exponent) (one_way false zero_exponent) e ∙ sym (count-root2_twice (one_way false zero_exponent) e (omega arith, tt) he)
two_h_counts (suc (suc i)) j e hi hj he = absurd (omega arith)
two_h_counts i (suc (suc j)) e hi hj he = absurd (omega arith)

-- two H are no gate
pub two_h_equivalent : EquivalentProgramCircuits 1 (ProgramH 0 ∷ ProgramH 0 ∷ []) []
two_h_equivalent = (
  zero_exponent,
  record {
    phase = omega arith;
    counts = λ i j e hi hj he. two_h_counts i j e hi hj he ∙ ap (count (scaled_program_ways 1 [] two_h i j)) (sym (minus-zero e he));
  },
)
