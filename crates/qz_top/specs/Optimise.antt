-- The command that optimises a program by the rules of a file.
use Rattle.std.specs.Prelude.{◌≡◌, ℕ, List, Result, Ok, Err}
use Rattle.qz_circ.specs.declared.fault.RuleFault.{RuleFault}
use Rattle.qz_circ.specs.declared.fault.RuleFault.TheVariants as fault
use Rattle.qz_circ.specs.declared.fault.Which.TheVariants.{RuleBytes}
use Rattle.qz_circ.specs.Circuit.{Circuit}
use Rattle.qz_circ.specs.ProgramCircuits.{ProgramCircuit}
use Rattle.qz_circ.specs.Programs.{ProgramParts}
use Rattle.qz_circ.specs.ProgramText.{program_text}
use Rattle.qz_circ.specs.Replacement.{children}
use Rattle.qz_circ.specs.RuleFiles.{RuleClasses, Reads}
use Rattle.qz_circ.specs.Search.{PlanNumbers, best_found}
use Rattle.qz_top.specs.declared.files.FileLimit.{FileLimit}
use Rattle.qz_top.specs.declared.status.Status.{Status}
use Rattle.qz_top.specs.declared.status.Status.TheVariants as status
use Rattle.qz_top.specs.Answer.{Answer, Given, refused_with}
use Rattle.qz_top.specs.Files.{NamedAnswer}
use Rattle.qz_top.specs.Inputs.{input_answer}
use Rattle.qz_top.specs.Words.{which_of}

-- how long a rule file is at most
abbrev pub rule_file : FileLimit
rule_file = record { most = 134217728; which = RuleBytes }

-- the status of a fault of a rule file; want of memory has its own
abbrev pub status_of_rule_fault : RuleFault → Status
status_of_rule_fault (fault.Syntax place) = status.RuleSyntax place
status_of_rule_fault (fault.Limit refused) = status.Limit (which_of refused)
status_of_rule_fault (fault.Unsound class member) = status.Unsound class member
status_of_rule_fault fault.Memory = status.Memory

-- the circuit that the search with these classes and this plan finds
abbrev pub found_circuit : List (List Circuit) → PlanNumbers → ProgramCircuit → ProgramCircuit
found_circuit classes plan c = best_found (children classes) plan c

-- the program with this circuit in place of its gates
abbrev pub with_circuit : ProgramParts → ProgramCircuit → ProgramParts
with_circuit p c = record p { gates = c }

-- the text of a program that is optimised by these rules and with this plan
abbrev pub optimised_text : RuleClasses → PlanNumbers → ProgramParts → List ℕ
optimised_text rules plan p = program_text (with_circuit p (found_circuit rules.classes plan p.gates))

-- the answers to what a rule file says: its fault; or with rules, the answer to the input
abbrev pub RulesAnswer : PlanNumbers → Given → Result RuleClasses RuleFault → Answer → Type 0
RulesAnswer plan given (Ok rules) answer = answer ≡ input_answer (optimised_text rules plan) given.input
RulesAnswer plan given (Err e) answer = answer ≡ refused_with (status_of_rule_fault e)

-- the answers to the bytes of a rule file: those to what they say
abbrev pub RuleBytesAnswer : PlanNumbers → Given → List ℕ → Answer → Type 0
RuleBytesAnswer plan given file answer = (said : Result RuleClasses RuleFault) × Reads file said × RulesAnswer plan given said answer

-- the answers to what is given, with the rule file of this name and this plan
abbrev pub Optimises : List ℕ → PlanNumbers → Given → Answer → Type 0
Optimises name plan given answer = NamedAnswer rule_file name (RuleBytesAnswer plan) given answer
