-- Gates that make the same of all amounts are the same unitary, and two gates without a common qubit may change places.
use Rattle.std.proofs.Common.{◌≡◌, ℕ, ◌==◌, ◌||◌, Bool, true, false, List, [], ◌∷◌, map, count_by, refl, sym, ap, ◌∙◌, arith, true≢false}
use Rattle.std.specs.List.{list_any}
use Rattle.std.proofs.lemmas.Bool.{eq-eqb, eqb-true, or_parts}
use Rattle.qz_circ.specs.declared.circuit.Op.{Op}
use Rattle.qz_circ.specs.declared.circuit.Op.TheVariants.{H, X, Cx, Rz}
use Rattle.qz_circ.specs.declared.circuit.Inst.{Inst}
use Rattle.qz_circ.specs.declared.circuit.Inst.TheVariants.{H as ProgramH, X as ProgramX, Cx as ProgramCx, Rz as ProgramRz}
use Rattle.qz_circ.specs.Circuit.{ActsBelow}
use Rattle.qz_circ.specs.Exponent.{zero_exponent}
use Rattle.qz_circ.specs.Paths.{Ways, entry, paths, is_h}
use Rattle.qz_circ.specs.Equivalence.{scaled_ways, Equivalent}
use Rattle.qz_circ.specs.ProgramCircuits.{ProgramCircuit, IsProgramGate, program_entry, program_paths, is_program_h, program_halves, scaled_program_ways, EquivalentProgramCircuits}
use Rattle.qz_circ.specs.Gathering.{qubits_of, shares}
use Rattle.qz_circ.specs.Places.{rule_qubits_of, rule_shares}
use Rattle.qz_circ.proofs.Exponents.{minus-zero}
use Rattle.qz_circ.proofs.GateSteps.{Gate, Amounts, Apart, step, commute}
use Rattle.qz_circ.proofs.Through.{gate_ways}
use Rattle.qz_circ.proofs.RuleGates.{as_gate, as_program_gate, entry_ways, program_entry_ways}
use Rattle.qz_circ.proofs.Roots.{roots}
use Rattle.qz_paths.proofs.Equivalences.{IsSameUnitary}
use Rattle.qz_paths.proofs.Runs.{run, AreGates, start}
use Rattle.qz_paths.proofs.Congruence.{same_of, rule_gates, program_gates}

-- ---- gates that make the same of all amounts

-- gates of either kind, of which as many owe a factor 1/√2
same_by_runs : {G : Type 0} (through : G → Ways) (as_one : G → Gate) (same : (g : G) → through g ≡ gate_ways (as_one g)) (is_half : G → Bool) (q : ℕ) (a b : List G) →
    AreGates q (map as_one a) → AreGates q (map as_one b) → count_by is_half a ≡ count_by is_half b → ((v : Amounts) → run (map as_one a) v ≡ run (map as_one b) v) → IsSameUnitary through is_half q a b
same_by_runs through as_one same is_half q a b ha hb halves runs = (
  zero_exponent,
  same_of through as_one same is_half q zero_exponent (count_by is_half b) (count_by is_half a) a b (omega arith) ha hb
      (λ i j hi hj e he d. roots (sym halves d) (runs (start j) d i) (sym (minus-zero e he) d)),
)

-- circuits of programs
pub programs_by_runs : (q : ℕ) (a b : ProgramCircuit) → AreGates q (map as_program_gate a) → AreGates q (map as_program_gate b) → program_halves a ≡ program_halves b → ((v : Amounts) → run (map as_program_gate a) v ≡ run (map as_program_gate b) v) →
    EquivalentProgramCircuits q a b
unfolding scaled_program_ways program_paths
programs_by_runs q a b ha hb halves runs = same_by_runs program_entry as_program_gate program_entry_ways is_program_h q a b ha hb halves runs

-- ---- common qubits

-- lists without a common number have no number both
no_common : (xs ys : List ℕ) → list_any (λ w. list_any (λ v. v == w) ys) xs ≡ false → (w : ℕ) → list_any (λ v. v == w) xs ≡ true → list_any (λ v. v == w) ys ≡ true → ⊥
no_common [] ys apart w first second = true≢false (sym first)
no_common (x ∷ xs) ys apart w first second =
    let parts = or_parts (list_any (λ v. v == x) ys) (list_any (λ u. list_any (λ v. v == u) ys) xs) apart in
    by (x == w) (eqb-true x w) parts.0 (no_common xs ys parts.1 w) first
  where
    by : (same : Bool) → (same ≡ true → x ≡ w) → list_any (λ v. v == x) ys ≡ false → (list_any (λ v. v == w) xs ≡ true → list_any (λ v. v == w) ys ≡ true → ⊥) → (same || list_any (λ v. v == w) xs) ≡ true → ⊥
    by true equal none rest here = true≢false (sym second ∙ ap (λ u. list_any (λ v. v == u) ys) (sym (equal refl)) ∙ none)
    by false equal none rest here = rest here second

-- gates with these qubits, of which none is common, are apart
apart_by : (xs ys : List ℕ) (f g : Gate) → list_any (λ w. list_any (λ v. v == w) ys) xs ≡ false →
    list_any (λ v. v == f.control) xs ≡ true → list_any (λ v. v == f.target) xs ≡ true → list_any (λ v. v == g.control) ys ≡ true → list_any (λ v. v == g.target) ys ≡ true → Apart f g
apart_by xs ys f g none first second third fourth = record {
  targets = λ h. no_common xs ys none f.target second (ap (λ w. list_any (λ v. v == w) ys) h ∙ fourth);
  first = λ h. no_common xs ys none f.target second (ap (λ w. list_any (λ v. v == w) ys) (sym h) ∙ third);
  second = λ h. no_common xs ys none g.target (ap (λ w. list_any (λ v. v == w) xs) (sym h) ∙ first) fourth;
}

-- the control of a gate is one of its qubits
rule_control : (g : Op) → list_any (λ v. v == (as_gate g).control) (rule_qubits_of g) ≡ true
rule_control (H t) = ap (λ b. b || false) (eq-eqb t t refl)
rule_control (X t) = ap (λ b. b || false) (eq-eqb t t refl)
rule_control (Cx c t) = ap (λ b. b || (t == c || false)) (eq-eqb c c refl)
rule_control (Rz t e) = ap (λ b. b || false) (eq-eqb t t refl)

-- and so is its target
rule_target : (g : Op) → list_any (λ v. v == (as_gate g).target) (rule_qubits_of g) ≡ true
rule_target (H t) = ap (λ b. b || false) (eq-eqb t t refl)
rule_target (X t) = ap (λ b. b || false) (eq-eqb t t refl)
rule_target (Cx c t) = ap (λ b. c == t || (b || false)) (eq-eqb t t refl) ∙ either (c == t)
  where
    either : (b : Bool) → (b || true) ≡ true
    either true = refl
    either false = refl
rule_target (Rz t e) = ap (λ b. b || false) (eq-eqb t t refl)

-- a gate of a program has the control, the target and the qubits of one of a rule
program_control : (g : Inst) → list_any (λ v. v == (as_program_gate g).control) (qubits_of g) ≡ true
program_control (ProgramH t) = rule_control (H t)
program_control (ProgramX t) = rule_control (X t)
program_control (ProgramCx c t) = rule_control (Cx c t)
program_control (ProgramRz t k) = rule_control (H t)

program_target : (g : Inst) → list_any (λ v. v == (as_program_gate g).target) (qubits_of g) ≡ true
program_target (ProgramH t) = rule_target (H t)
program_target (ProgramX t) = rule_target (X t)
program_target (ProgramCx c t) = rule_target (Cx c t)
program_target (ProgramRz t k) = rule_target (H t)

-- two gates of a rule without a common qubit are apart
rules_apart : (f g : Op) → rule_shares f g ≡ false → Apart (as_gate f) (as_gate g)
rules_apart f g none = apart_by (rule_qubits_of f) (rule_qubits_of g) (as_gate f) (as_gate g) none (rule_control f) (rule_target f) (rule_control g) (rule_target g)

-- and so of a program
pub programs_apart : (f g : Inst) → shares f g ≡ false → Apart (as_program_gate f) (as_program_gate g)
programs_apart f g none = apart_by (qubits_of f) (qubits_of g) (as_program_gate f) (as_program_gate g) none (program_control f) (program_target f) (program_control g) (program_target g)

-- ---- gates that change places

-- two gates that are apart make the same of all amounts in either order
pub swapped : (f g : Gate) (v : Amounts) → Apart f g → step f (step g v) ≡ step g (step f v)
swapped f g v apart = λ d i e. commute f g v i e apart d

-- two gates of either kind
same_in_either_order : {G : Type 0} (through : G → Ways) (as_one : G → Gate) (same : (g : G) → through g ≡ gate_ways (as_one g)) (is_half : G → Bool) (q : ℕ) (f g : G) →
    AreGates q (map as_one (f ∷ g ∷ [])) → AreGates q (map as_one (g ∷ f ∷ [])) → Apart (as_one f) (as_one g) → IsSameUnitary through is_half q (f ∷ g ∷ []) (g ∷ f ∷ [])
same_in_either_order through as_one same is_half q f g first second apart =
    same_by_runs through as_one same is_half q (f ∷ g ∷ []) (g ∷ f ∷ []) first second (omega arith) (λ v. sym (swapped (as_one f) (as_one g) v apart))

-- of a rule
pub rules_commute : (q : ℕ) (f g : Op) → ActsBelow q f → ActsBelow q g → rule_shares f g ≡ false → Equivalent q (f ∷ g ∷ []) (g ∷ f ∷ [])
unfolding scaled_ways paths
rules_commute q f g hf hg none =
    same_in_either_order entry as_gate entry_ways is_h q f g (rule_gates q (f ∷ g ∷ []) (hf, (hg, tt))) (rule_gates q (g ∷ f ∷ []) (hg, (hf, tt))) (rules_apart f g none)

-- of a program
pub programs_commute : (q : ℕ) (f g : Inst) → IsProgramGate q f → IsProgramGate q g → shares f g ≡ false → EquivalentProgramCircuits q (f ∷ g ∷ []) (g ∷ f ∷ [])
unfolding scaled_program_ways program_paths
programs_commute q f g hf hg none =
    same_in_either_order program_entry as_program_gate program_entry_ways is_program_h q f g (program_gates q (f ∷ g ∷ []) (hf, (hg, tt))) (program_gates q (g ∷ f ∷ []) (hg, (hf, tt))) (programs_apart f g none)
