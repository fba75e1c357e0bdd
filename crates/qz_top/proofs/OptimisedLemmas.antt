-- What the search makes of a program.
use Rattle.std.proofs.Common.{◌≡◌, ℕ, ◌≤◌, List, [], ◌∷◌, length, Result, Ok, Err, subst, ◌∙◌, ap, arith}
use Rattle.std.specs.Prelude.{IfOk, MatchResult}
use Rattle.std.specs.List.{AllByRecursion}
use Rattle.qz_circ.specs.declared.circuit.Inst.{Inst}
use Rattle.qz_circ.specs.declared.circuit.Inst.TheVariants.{H, X, Cx, Rz}
use Rattle.qz_circ.specs.Grammar.{program_of}
use Rattle.qz_circ.specs.ProgramCircuits.{ProgramCircuit, IsProgramGate, EquivalentProgramCircuits, ones, cost}
use Rattle.qz_circ.specs.ProgramLimits.{most_gates}
use Rattle.qz_circ.proofs.ProgramOrder.{cost_ones}
use Rattle.qz_circ.specs.Programs.{ProgramParts}
use Rattle.qz_circ.specs.ProgramText.{program_text}
use Rattle.qz_circ.specs.Registers.{total_size}
use Rattle.qz_circ.specs.Replacement.{children}
use Rattle.qz_circ.specs.RuleFiles.{RuleClasses}
use Rattle.qz_circ.specs.Search.{PlanNumbers, best_found}
use Rattle.qz_circ.specs.ValidPrograms.{Valid}
use Rattle.qz_qread.proofs.RoundTrip.{what_is_written_is_read}
use Rattle.qz_top.specs.declared.status.Status.{Status}
use Rattle.qz_top.specs.declared.status.Status.TheVariants as status
use Rattle.qz_top.specs.Optimise.{with_circuit}
use Rattle.qz_top.specs.Optimised.{IsFound, IsOptimised}

-- a gate on some of 64 qubits is one on 64
wider_gate : (q : ℕ) (g : Inst) → q ≤ 64 → IsProgramGate q g → IsProgramGate 64 g
wider_gate q (H t) few below = omega (arith, few, below)
wider_gate q (X t) few below = omega (arith, few, below)
wider_gate q (Cx c t) few gate = (omega (arith, few, gate.0), omega (arith, few, gate.1), gate.2)
wider_gate q (Rz t k) few gate = (omega (arith, few, gate.0), gate.1, gate.2)

pub wider_gates : (q : ℕ) (gates : ProgramCircuit) → q ≤ 64 → AllByRecursion (IsProgramGate q) gates → AllByRecursion (IsProgramGate 64) gates
wider_gates q [] few each = tt
wider_gates q (g ∷ gates) few each = (wider_gate q g few each.0, wider_gates q gates few each.1)

-- what a search says of the circuit that it finds
pub record IsSearched {T F : Type 0} (items : T → ProgramCircuit) (rules : RuleClasses) (made : Result T F) (gates : ProgramCircuit) (plan : PlanNumbers) : Type 0 where
  pub best : IfOk made (λ d. items d ≡ best_found (children rules.classes) plan gates)
  pub cheap : IfOk made (λ d. cost plan.weights (items d) ≤ cost plan.weights gates)
  pub short : IfOk made (λ d. length (items d) ≤ most_gates)
  pub lawful : (q : ℕ) → q ≤ 64 → AllByRecursion (IsProgramGate q) gates → IfOk made (λ d. AllByRecursion (IsProgramGate q) (items d))
  pub equivalent : (q : ℕ) → q ≤ 64 → AllByRecursion (IsProgramGate q) gates → IfOk made (λ d. EquivalentProgramCircuits q gates (items d))

-- a program with few enough gates, on its qubits, is valid too
still_valid : (p : ProgramParts) (circuit : ProgramCircuit) → Valid p → AllByRecursion (IsProgramGate (total_size p.qregs)) circuit → length circuit ≤ most_gates → Valid (with_circuit p circuit)
still_valid p circuit valid each few = record {
  names = valid.names;
  different = valid.different;
  few_registers = valid.few_registers;
  sizes = valid.sizes;
  few_bits = valid.few_bits;
  gates = record { few = valid.gates.few; gates = each };
  few_gates = few;
  tail = valid.tail;
}

-- where each gate weighs 1, what costs no more has no more gates
no_longer : (ws : List ℕ) (c d : ProgramCircuit) → cost ws c ≤ cost ws d → ws ≡ ones → length c ≤ length d
no_longer ws c d cheap e =
    let by_ones : cost ones c ≤ cost ones d = subst (λ vs. cost vs c ≤ cost vs d) e cheap in
    omega (arith, by_ones, cost_ones c, cost_ones d)

-- so the search from a valid program's gates finds what stands in their place
found_by : {T F : Type 0} (items : T → ProgramCircuit) (rules : RuleClasses) (plan : PlanNumbers) (p : ProgramParts) (made : Result T F) → Valid p → IsSearched items rules made p.gates plan → IfOk made (λ d. IsFound rules plan p (items d))
found_by items rules plan p (Ok d) valid is =
    let q = total_size p.qregs in
    record {
      found = is.best;
      equivalent = is.equivalent q valid.gates.few valid.gates.gates;
      no_dearer = is.cheap;
      no_longer = no_longer plan.weights (items d) p.gates is.cheap;
      valid = still_valid p (items d) valid (is.lawful q valid.gates.few valid.gates.gates) is.short;
    }
found_by items rules plan p (Err e) valid is = tt

pub circuit_found : {T F : Type 0} (items : T → ProgramCircuit) (rules : RuleClasses) (plan : PlanNumbers) (p : ProgramParts) (gates : ProgramCircuit) (made : Result T F) → Valid p → gates ≡ p.gates → IsSearched items rules made gates plan →
    IfOk made (λ d. IsFound rules plan p (items d))
circuit_found items rules plan p gates made valid same is = found_by items rules plan p made valid (subst (λ gs. IsSearched items rules made gs plan) same is)

-- the text of the program with such a circuit
abbrev written_as : {T : Type 0} (items : T → List ℕ) → Result T Status → ProgramParts → Type 0
written_as items made shown = MatchResult made (λ text. items text ≡ program_text shown) (λ s. s ≡ status.Memory)

optimised_as : {T : Type 0} (items : T → List ℕ) (rules : RuleClasses) (plan : PlanNumbers) (p : ProgramParts) (circuit : ProgramCircuit) (made : Result T Status) → IsFound rules plan p circuit →
    written_as items made (with_circuit p circuit) → MatchResult made (λ text. IsOptimised rules plan p (items text)) (λ s. s ≡ status.Memory)
optimised_as items rules plan p circuit (Ok text) found is = record {
  circuit = circuit;
  found = found;
  text_is = is;
  read_back = ap program_of is ∙ what_is_written_is_read (with_circuit p circuit) found.valid;
}
optimised_as items rules plan p circuit (Err s) found is = is

pub text_made : {T : Type 0} (items : T → List ℕ) (rules : RuleClasses) (plan : PlanNumbers) (p : ProgramParts) (circuit : ProgramCircuit) (shown : ProgramParts) (made : Result T Status) → IsFound rules plan p circuit → shown ≡ with_circuit p circuit →
    MatchResult made (λ text. items text ≡ program_text shown) (λ s. s ≡ status.Memory) → MatchResult made (λ text. IsOptimised rules plan p (items text)) (λ s. s ≡ status.Memory)
text_made items rules plan p circuit shown made found same is = optimised_as items rules plan p circuit made found (subst (written_as items made) same is)
