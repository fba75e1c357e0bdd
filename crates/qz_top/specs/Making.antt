-- What a command has made before it writes: what it has read, the text for the output, or the status that it ends with.
use Rattle.std.specs.Prelude.{◌≡◌, ◌≢◌, ℕ, ◌≤◌, ◌⊎◌, IsTrue, List, length, Ok}
use Rattle.qz_circ.specs.Grammar.{program_of}
use Rattle.qz_circ.specs.Programs.{ProgramParts}
use Rattle.qz_circ.specs.RuleFiles.{RuleClasses, Reads}
use Rattle.qz_io.specs.Counts.{Rose}
use Rattle.qz_io.specs.Transfers.{Input}
use Rattle.qz_top.specs.declared.status.Status.{Status}
use Rattle.qz_top.specs.declared.status.Status.TheVariants.{Ok as Done, Memory, ReadFault}
use Rattle.qz_top.specs.Answer.{Answer, refused_with, done_with, Output, Storage, Given, IsTold, AreTold, IsCarriedOut}
use Rattle.qz_top.specs.Inputs.{most_input_bytes, input_answer}
use Rattle.qz_top.specs.Files.{IsFileRead}
use Rattle.qz_top.specs.Optimise.{rule_file}
use Rattle.qz_top.specs.Status.{IsRefusal, IsBeforeInput}

-- ---- texts and statuses

-- the text is that of an answer to what is given, all answers end well, and no fault of the input or of the shelf is passed over
pub record IsToBeWritten (Answers : Given → Answer → Type 0) (text : List ℕ) (input : Input) (shelf : Storage) : Type 0 where
  pub given : Given
  pub told : AreTold input shelf given
  pub err : List ℕ
  pub is_answer : Answers given (done_with text err)
  pub well : (answer : Answer) → Answers given answer → answer.status ≡ Done
  pub answered : IsTrue input.answers_faults → input.faults_after ≡ input.faults_before
  pub shelf_answered : IsTrue shelf.answers_faults → shelf.faults_after ≡ shelf.faults_before

-- the command is carried out with this status, although nothing is handed to the output
pub record EndsEarly (Answers : Given → Answer → Type 0) (status : Status) (input : Input) (shelf : Storage) : Type 0 where
  pub not_done : status ≢ Done
  pub carried_out : (out : Output) → out.written_after ≡ out.written_before → out.faults_after ≡ out.faults_before → IsCarriedOut Answers status (record { input = input; shelf = shelf; out = out })

-- so it is, whatever the input is, as long as it has no fault
abbrev pub EndsUnread : (Given → Answer → Type 0) → Status → Storage → Type 0
EndsUnread Answers status shelf = (input : Input) → input.faults_after ≡ input.faults_before → EndsEarly Answers status input shelf

-- ---- rule files

-- the rules are those that the file with this name says
pub record AreRulesRead (name : List ℕ) (rules : RuleClasses) (shelf : Storage) : Type 0 where
  pub bytes : List ℕ
  pub read : IsFileRead rule_file name bytes shelf
  pub said : Reads bytes (Ok rules)

-- the rules were read, whichever they are
abbrev pub HasRules : List ℕ → Storage → Type 0
HasRules name shelf = (rules : RuleClasses) × AreRulesRead name rules shelf

-- ---- inputs

-- no fault of the input is passed over
abbrev pub IsAnswered : Input → Type 0
IsAnswered input = IsTrue input.answers_faults → input.faults_after ≡ input.faults_before

-- the program is that of an input within the limit, and no fault of the input is passed over
pub record IsProgramRead (p : ProgramParts) (input : Input) : Type 0 where
  pub bytes : List ℕ
  pub told : IsTold input.old bytes
  pub short : length bytes ≤ most_input_bytes
  pub said : program_of bytes ≡ Ok p
  pub answered : IsAnswered input

-- the input is that of a program with this property
pub record IsMadeOfInput (P : ProgramParts → Type 0) (input : Input) : Type 0 where
  pub program : ProgramParts
  pub read : IsProgramRead program input
  pub made : P program

-- the answer to an input of these bytes is this refusal, whatever becomes of programs; it is none that comes before an input
pub record RefusesBytes (s : Status) (bytes : List ℕ) : Type 0 where
  pub refusal : IsRefusal s
  pub late : ¬ IsBeforeInput s
  pub answer : (text : ProgramParts → List ℕ) → input_answer text bytes ≡ refused_with s

-- the input has such bytes, and no fault of it is passed over
pub record IsInputRefused (s : Status) (input : Input) : Type 0 where
  pub bytes : List ℕ
  pub told : IsTold input.old bytes
  pub refuses : RefusesBytes s bytes
  pub answered : IsAnswered input

-- a command that needs a program ends so for its input: it is refused, or memory ran out, or the input failed
abbrev pub EndsByInput : Status → Input → Type 0
EndsByInput s input = IsInputRefused s input ⊎ (((s ≡ Memory) × IsAnswered input) ⊎ ((s ≡ ReadFault) × Rose input.faults_before input.faults_after))
