-- The limits of a trial's rules are lawful, and its gates are gates of programs on its qubits.
use Rattle.std.proofs.Common.{◌≡◌, ◌≢◌, ℕ, ◌+◌, ◌-◌, ◌*◌, ◌%◌, ◌<◌, ◌≤◌, ◌==◌, Bool, true, false, cond, refl, ◌∙◌, ap, arith, ◌⊎◌, inl, inr}
use Rattle.std.proofs.Math.Nat.{mod-lt, mod-eq_of_lt, add-mod_left}
use Rattle.std.proofs.lemmas.Bool.{cases_order, eqb-false}
use Rattle.std.specs.List.{AllByRecursion}
use Rattle.qz_circ.specs.declared.circuit.Inst.TheVariants.{H, X, Cx, Rz}
use Rattle.qz_circ.specs.Circuit.{below, gates_of, angles}
use Rattle.qz_circ.specs.Bounds.{refusal, refusal_where, gate_count, IsLawful}
use Rattle.qz_circ.specs.ProgramCircuits.{IsProgramGate}
use Rattle.qz_circ.proofs.RisingLists.{each_of_all, each-map}
use Rattle.qz_random.specs.RandomWords.{word}
use Rattle.qz_top.specs.Trial.{controlled, gate_of_kind, trial_gate, trial_circuit, trial_limits}

-- the limits of the rules are lawful
pub trial_lawful : IsLawful trial_limits
unfolding refusal refusal_where gate_count gates_of angles
trial_lawful = refl

-- counted round, so many past the next of q is another one
past_is_another : (q a r : ℕ) → a < q → r < q - 1 → a ≢ (a + 1 + r) % q
past_is_another q a r here few same = by (cases_order (a + 1 + r) q)
  where
    round : q ≤ a + 1 + r → ⊥
    round over =
        let rest : a + 1 + r ≡ q + (a + 1 + r - q) = omega arith in
        let small : a + 1 + r - q < q = omega arith in
        let is : (a + 1 + r) % q ≡ a + 1 + r - q = ap (λ n. n % q) rest ∙ add-mod_left q (a + 1 + r - q) ∙ mod-eq_of_lt small in
        omega (arith, same, is, over, few, here)

    by : (a + 1 + r ≡ q) ⊎ ((a + 1 + r < q) ⊎ (q < a + 1 + r)) → ⊥
    by (inl equal) = round (omega (arith, equal))
    by (inr (inl less)) = omega (arith, same, mod-eq_of_lt less)
    by (inr (inr more)) = round (omega (arith, more))

-- a controlled NOT is a gate of programs
controlled_fits : (q a past : ℕ) → a < q → IsProgramGate q (controlled q a past)
controlled_fits q a past here = by (q == 1) refl
  where
    by : (one : Bool) → (q == 1) ≡ one → IsProgramGate q (cond one (X a) (Cx a ((a + 1 + past % (q - 1)) % q)))
    by true is = here
    by false is =
        let several : q ≢ 1 = eqb-false q 1 is in
        let some : 0 < q - 1 = omega (arith, several, here) in
        (here, mod-lt (a + 1 + past % (q - 1)) (omega (arith, here)), past_is_another q a (past % (q - 1)) here (mod-lt past some))

-- so is the gate of each kind
kind_fits : (q kind a choice : ℕ) → a < q → IsProgramGate q (gate_of_kind q kind a choice)
kind_fits q kind a choice here = by (kind == 0) (kind == 1) (kind == 2)
  where
    by : (h x c : Bool) → IsProgramGate q (cond h (H a) (cond x (X a) (cond c (controlled q a choice) (Rz a (64 * (1 + choice % 7))))))
    by true x c = here
    by false true c = here
    by false false true = controlled_fits q a choice here
    by false false false = (here, omega arith, omega arith)

-- and each gate of a trial
pub trial_gates_fit : (seed q g : ℕ) → 1 ≤ q → AllByRecursion (IsProgramGate q) (trial_circuit seed q g)
unfolding trial_gate
trial_gates_fit seed q g some =
    each-map (IsProgramGate q) (trial_gate seed q) (below g)
    (each_of_all (λ k. IsProgramGate q (trial_gate seed q k)) (λ k. kind_fits q (word seed (3 * k) % 4) (word seed (3 * k + 1) % q) (word seed (3 * k + 2)) (mod-lt (word seed (3 * k + 1)) some)) (below g))
