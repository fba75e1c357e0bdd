-- The texts that go to the error stream.
use Rattle.std.specs.Prelude.{ℕ, List, [], ◌++◌, codes}
use Rattle.std.specs.Fmt.{decimal}
use Rattle.qz_circ.specs.Lines.{line}
use Rattle.qz_circ.specs.declared.fault.Which.{Which}
use Rattle.qz_circ.specs.declared.fault.Which.TheVariants as which
use Rattle.qz_circ.specs.declared.fault.LexFault.{LexFault}
use Rattle.qz_circ.specs.declared.fault.LexFault.TheVariants as lex
use Rattle.qz_circ.specs.declared.fault.AngleFault.{AngleFault}
use Rattle.qz_circ.specs.declared.fault.AngleFault.TheVariants as angle
use Rattle.qz_circ.specs.declared.fault.QasmFault.{QasmFault}
use Rattle.qz_circ.specs.declared.fault.QasmFault.TheVariants as program
use Rattle.qz_top.specs.declared.status.Status.{Status}
use Rattle.qz_top.specs.declared.status.Status.TheVariants as status

-- the name of a limit
abbrev pub which_name : Which → List ℕ
which_name which.BoundsQubits = codes "bounds-qubits"
which_name which.BoundsGates = codes "bounds-gates"
which_name which.BoundsParams = codes "bounds-params"
which_name which.BoundsGrain = codes "bounds-grain"
which_name which.BoundsCircuits = codes "bounds-circuits"
which_name which.Workers = codes "workers"
which_name which.PlanBatch = codes "plan-batch"
which_name which.PlanCap = codes "plan-cap"
which_name which.PlanRounds = codes "plan-rounds"
which_name which.PlanSlack = codes "plan-slack"
which_name which.CostWeight = codes "cost-weight"
which_name which.InputBytes = codes "input-bytes"
which_name which.RuleBytes = codes "rule-bytes"
which_name which.ProgramRegisters = codes "program-registers"
which_name which.ProgramQubits = codes "program-qubits"
which_name which.ProgramBits = codes "program-bits"
which_name which.ProgramGates = codes "program-gates"
which_name which.TrialQubits = codes "trial-qubits"
which_name which.TrialGates = codes "trial-gates"
which_name which.FileBytes = codes "file-bytes"
which_name which.CheckQubits = codes "check-qubits"
which_name which.CheckHalves = codes "check-halves"
which_name which.CheckGates = codes "check-gates"

-- what kind of fault it is that a text can't be cut into tokens
abbrev pub lex_kind : LexFault → List ℕ
lex_kind (lex.BadByte place) = codes "BadByte"
lex_kind (lex.LongName place) = codes "LongName"
lex_kind (lex.BigNumber place) = codes "BigNumber"
lex_kind lex.Memory = codes "Memory"

-- what kind of fault it is that tokens are no angle
abbrev pub angle_kind : AngleFault → List ℕ
angle_kind (angle.Form place) = codes "AngleForm"
angle_kind (angle.Deep place) = codes "AngleDeep"
angle_kind (angle.Kind place) = codes "AngleKind"
angle_kind (angle.ZeroDivisor place) = codes "AngleZeroDivisor"
angle_kind (angle.Range place) = codes "AngleRange"
angle_kind (angle.NotMultiple place) = codes "AngleNotMultiple"

-- What kind of fault a program has. Limits and want of memory end a command with statuses of their own; they are named here
-- only so that each fault has a kind.
abbrev pub fault_kind : QasmFault → List ℕ
fault_kind (program.Lex fault) = lex_kind fault
fault_kind (program.Syntax place) = codes "Syntax"
fault_kind (program.Unsupported place) = codes "Unsupported"
fault_kind (program.UnknownGate place) = codes "UnknownGate"
fault_kind (program.UnknownName place) = codes "UnknownName"
fault_kind (program.Twice place) = codes "Twice"
fault_kind (program.Index place) = codes "Index"
fault_kind (program.SameQubit place) = codes "SameQubit"
fault_kind (program.Sizes place) = codes "Sizes"
fault_kind (program.Angle fault) = angle_kind fault
fault_kind (program.Limit which place) = codes "Limit"
fault_kind program.Memory = codes "Memory"

-- where a text can't be cut into tokens; want of memory has no place, and 0 stands for it
abbrev pub lex_place : LexFault → ℕ
lex_place (lex.BadByte place) = place
lex_place (lex.LongName place) = place
lex_place (lex.BigNumber place) = place
lex_place lex.Memory = 0

-- where tokens are no angle
abbrev pub angle_place : AngleFault → ℕ
angle_place (angle.Form place) = place
angle_place (angle.Deep place) = place
angle_place (angle.Kind place) = place
angle_place (angle.ZeroDivisor place) = place
angle_place (angle.Range place) = place
angle_place (angle.NotMultiple place) = place

-- where the fault of a program is: the number of the byte, counted from 0
abbrev pub fault_place : QasmFault → ℕ
fault_place (program.Lex fault) = lex_place fault
fault_place (program.Syntax place) = place
fault_place (program.Unsupported place) = place
fault_place (program.UnknownGate place) = place
fault_place (program.UnknownName place) = place
fault_place (program.Twice place) = place
fault_place (program.Index place) = place
fault_place (program.SameQubit place) = place
fault_place (program.Sizes place) = place
fault_place (program.Angle fault) = angle_place fault
fault_place (program.Limit which place) = place
fault_place program.Memory = 0

-- the text of a fault of a program, behind a few words that say whose
abbrev pub program_text : List ℕ → QasmFault → List ℕ
program_text whose fault = line (whose ++ fault_kind fault ++ codes " at " ++ decimal (fault_place fault))

-- the text for the error stream: one line for each status but success, which has none
abbrev pub status_text : Status → List ℕ
status_text status.Ok = []
status_text status.Memory = line (codes "out of memory")
status_text status.Usage = line (codes "usage: quartz COMMAND [words]")
status_text (status.Limit which) = line (codes "limit: " ++ which_name which)
status_text (status.Qasm fault) = program_text (codes "program: ") fault
status_text (status.RuleSyntax place) = line (codes "rules: Syntax at " ++ decimal place)
status_text (status.Unsound class member) = line (codes "rules: class " ++ decimal class ++ codes " member " ++ decimal member ++ codes " is not equivalent to member 1")
status_text status.NoFile = line (codes "no such file")
status_text status.ReadFault = line (codes "read fault")
status_text status.WriteFault = line (codes "write fault")
status_text status.ShelfFault = line (codes "rule file fault")
status_text (status.Shapes input file) = line (codes "check: " ++ decimal input ++ codes " and " ++ decimal file ++ codes " qubits")
status_text (status.FileQasm fault) = program_text (codes "file: ") fault
