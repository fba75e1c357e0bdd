-- The command that tells whether two programs are equivalent: that of the input, and that of a file.
use Rattle.std.specs.Prelude.{◌≡◌, ℕ, ◌+◌, ◌<◌, ◌≤◌, ◌==◌, ◌⊎◌, Bool, nat_lt, if◌then◌else◌, List, length, codes, Option, Some, None, Result, Ok, Err}
use Rattle.std.specs.Option.{option_map}
use Rattle.qz_circ.specs.declared.fault.QasmFault.{QasmFault}
use Rattle.qz_circ.specs.declared.fault.Which.{Which}
use Rattle.qz_circ.specs.declared.fault.Which.TheVariants.{FileBytes, InputBytes, CheckQubits, CheckHalves, CheckGates}
use Rattle.qz_circ.specs.Grammar.{program_of}
use Rattle.qz_circ.specs.Lines.{line}
use Rattle.qz_circ.specs.ProgramCircuits.{ProgramCircuit, program_halves, EquivalentProgramCircuits}
use Rattle.qz_circ.specs.Programs.{ProgramParts}
use Rattle.qz_circ.specs.Registers.{total_size}
use Rattle.qz_io.specs.Transfers.{Input}
use Rattle.qz_top.specs.declared.files.FileLimit.{FileLimit}
use Rattle.qz_top.specs.declared.status.Status.{Status}
use Rattle.qz_top.specs.declared.status.Status.TheVariants as status
use Rattle.qz_top.specs.Answer.{Answer, Given, Storage, refused_with, done}
use Rattle.qz_top.specs.Files.{IsFileRead, NamedAnswer}
use Rattle.qz_top.specs.Inputs.{most_input_bytes, status_of_fault}
use Rattle.qz_top.specs.Making.{IsMadeOfInput, EndsByInput}
use Rattle.qz_top.specs.Status.{IsRefusal}

-- ---- the file

-- how long the file is at most
abbrev pub program_file : FileLimit
program_file = record { most = 4194304; which = FileBytes }

-- what becomes of a status of an input's program where it is that of the file
abbrev pub of_file : Status → Status
of_file (status.Qasm fault) = status.FileQasm fault
of_file s = s

-- the status of a fault of the file's program; a limit and want of memory have their own
abbrev pub status_of_file_fault : QasmFault → Status
status_of_file_fault e = of_file (status_of_fault e)

-- ---- limits

-- the first limit that a check of two circuits on q qubits passes: there are at most 6 qubits, and both together have at most
-- 120 H and 4,000 gates
abbrev pub check_limit : ℕ → ProgramCircuit → ProgramCircuit → Option Which
check_limit q a c =
    if nat_lt 6 q then Some CheckQubits
    else if nat_lt 120 (program_halves a + program_halves c) then Some CheckHalves
    else if nat_lt 4000 (length a + length c) then Some CheckGates
    else None

-- why the programs of the input and of the file aren't compared, if they aren't: they have different numbers of qubits, or pass a limit
abbrev pub check_refusal : ProgramParts → ProgramParts → Option Status
check_refusal p file =
    if total_size p.qregs == total_size file.qregs
    then option_map status.Limit (check_limit (total_size p.qregs) p.gates file.gates)
    else Some (status.Shapes (total_size p.qregs) (total_size file.qregs))

-- ---- answers

-- what is told of programs that are equivalent or not
abbrev pub verdict_text : Bool → List ℕ
verdict_text same = if same then line (codes "equivalent") else line (codes "different")

-- what is told of two programs: whether their gates are equivalent on the input's qubits, whatever else they have
abbrev pub IsVerdict : ProgramParts → ProgramParts → List ℕ → Type 0
IsVerdict p file text =
    (EquivalentProgramCircuits (total_size p.qregs) p.gates file.gates × (text ≡ line (codes "equivalent"))) ⊎
    (¬ EquivalentProgramCircuits (total_size p.qregs) p.gates file.gates × (text ≡ line (codes "different")))

-- the answers to two programs: why they aren't compared, or what is told of them
abbrev pub PairAnswer : ProgramParts → ProgramParts → Option Status → Answer → Type 0
PairAnswer p file (Some s) answer = answer ≡ refused_with s
PairAnswer p file None answer = (text : List ℕ) × IsVerdict p file text × (answer ≡ done text)

-- the answers to what the input says: its fault, or those to two programs
abbrev pub ProgramAnswer : ProgramParts → Result ProgramParts QasmFault → Answer → Type 0
ProgramAnswer file (Ok p) answer = PairAnswer p file (check_refusal p file) answer
ProgramAnswer file (Err e) answer = answer ≡ refused_with (status_of_fault e)

-- the answers to an input: that it is too long, or those to what it says
abbrev pub ComparedAnswer : ProgramParts → List ℕ → Answer → Type 0
ComparedAnswer file input answer =
    ((most_input_bytes < length input) × (answer ≡ refused_with (status.Limit InputBytes))) ⊎ ((length input ≤ most_input_bytes) × ProgramAnswer file (program_of input) answer)

-- the answers to what the file says: its fault, or those to the input
abbrev pub OtherAnswer : Given → Result ProgramParts QasmFault → Answer → Type 0
OtherAnswer given (Ok file) answer = ComparedAnswer file given.input answer
OtherAnswer given (Err e) answer = answer ≡ refused_with (status_of_file_fault e)

-- the answers to the bytes of the file
abbrev pub OtherBytesAnswer : Given → List ℕ → Answer → Type 0
OtherBytesAnswer given file answer = OtherAnswer given (program_of file) answer

-- the answers to what is given, with the file of this name
abbrev pub Checks : List ℕ → Given → Answer → Type 0
Checks name given answer = NamedAnswer program_file name OtherBytesAnswer given answer

-- ---- how a check comes to them

-- the bytes of the file are refused by this status
pub record RefusesFileBytes (s : Status) (bytes : List ℕ) : Type 0 where
  pub refusal : IsRefusal s
  pub fault : QasmFault
  pub said : program_of bytes ≡ Err fault
  pub status_is : s ≡ status_of_file_fault fault

-- the program is that of the file with this name
pub record IsFileProgram (name : List ℕ) (p : ProgramParts) (shelf : Storage) : Type 0 where
  pub bytes : List ℕ
  pub read : IsFileRead program_file name bytes shelf
  pub said : program_of bytes ≡ Ok p

-- it was read, whichever it is
abbrev pub HasProgram : List ℕ → Storage → Type 0
HasProgram name shelf = (p : ProgramParts) × IsFileProgram name p shelf

-- the programs are compared, and the text is what is told of them
pub record IsChecked (p file : ProgramParts) (text : List ℕ) : Type 0 where
  pub passed : check_refusal p file ≡ None
  pub verdict : IsVerdict p file text

-- so it is of the input's program and that of the file with this name
pub record IsCheckedBy (name text : List ℕ) (input : Input) (shelf : Storage) : Type 0 where
  pub file : ProgramParts
  pub file_read : IsFileProgram name file shelf
  pub checked : IsMadeOfInput (λ p. IsChecked p file text) input

-- a command that compares the input with this program ends so: as the input alone says, or the two programs aren't compared
abbrev pub EndsByPrograms : ProgramParts → Status → Input → Type 0
EndsByPrograms file s input = EndsByInput s input ⊎ IsMadeOfInput (λ p. check_refusal p file ≡ Some s) input
