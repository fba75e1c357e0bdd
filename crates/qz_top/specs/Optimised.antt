-- What `optimise` writes.
use Rattle.std.specs.Prelude.{◌≡◌, ℕ, ◌≤◌, List, length, Ok}
use Rattle.std.specs.Io.KnownBytes.{append_known}
use Rattle.qz_circ.specs.Grammar.{program_of}
use Rattle.qz_circ.specs.ProgramCircuits.{ProgramCircuit, EquivalentProgramCircuits, ones, cost}
use Rattle.qz_circ.specs.Programs.{ProgramParts}
use Rattle.qz_circ.specs.ProgramText.{program_text}
use Rattle.qz_circ.specs.Registers.{total_size}
use Rattle.qz_circ.specs.RuleFiles.{RuleClasses}
use Rattle.qz_circ.specs.Search.{PlanNumbers}
use Rattle.qz_circ.specs.ValidPrograms.{Valid}
use Rattle.qz_io.specs.Transfers.{Input}
use Rattle.qz_top.specs.Answer.{Storage, Outside}
use Rattle.qz_top.specs.Making.{AreRulesRead, IsMadeOfInput}
use Rattle.qz_top.specs.Optimise.{found_circuit, with_circuit}

-- the circuit is the one that the search with these rules and this plan finds from the program's; it is equivalent to that on
-- the program's qubits, costs no more by the plan's weights, has no more gates where each gate weighs 1, and may stand in its place
pub record IsFound (rules : RuleClasses) (plan : PlanNumbers) (p : ProgramParts) (circuit : ProgramCircuit) : Type 0 where
  pub found : circuit ≡ found_circuit rules.classes plan p.gates
  pub equivalent : EquivalentProgramCircuits (total_size p.qregs) p.gates circuit
  pub no_dearer : cost plan.weights circuit ≤ cost plan.weights p.gates
  pub no_longer : plan.weights ≡ ones → length circuit ≤ length p.gates
  pub valid : Valid (with_circuit p circuit)

-- the text is that of the program with such a circuit as its gates, and is read as this program
pub record IsOptimised (rules : RuleClasses) (plan : PlanNumbers) (p : ProgramParts) (text : List ℕ) : Type 0 where
  pub circuit : ProgramCircuit
  pub found : IsFound rules plan p circuit
  pub text_is : text ≡ program_text (with_circuit p circuit)
  pub read_back : program_of text ≡ Ok (with_circuit p circuit)

-- the text is such a text, by the rules of the file with this name and with this plan, of the program that the input is
pub record IsOptimisedBy (name : List ℕ) (plan : PlanNumbers) (text : List ℕ) (input : Input) (shelf : Storage) : Type 0 where
  pub rules : RuleClasses
  pub rules_read : AreRulesRead name rules shelf
  pub optimised : IsMadeOfInput (λ p. IsOptimised rules plan p text) input

-- what the output tells has grown by such a text, whole
pub record WritesOptimised (name : List ℕ) (plan : PlanNumbers) (outside : Outside) : Type 0 where
  pub text : List ℕ
  pub optimised : IsOptimisedBy name plan text outside.input outside.shelf
  pub whole : outside.out.written_after ≡ append_known outside.out.written_before text
