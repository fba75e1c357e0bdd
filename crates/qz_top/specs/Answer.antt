-- The answer of a command: how it ends and what it writes; and when it is carried out. The answers are a relation, since
-- every class list of some limits gives one.
use Rattle.std.specs.Prelude.{◌≡◌, ◌≢◌, ℕ, ◌⊎◌, Bool, IsTrue, List, [], Option, Some, None}
use Rattle.std.specs.Io.KnownBytes.{append_known}
use Rattle.qz_io.specs.Counts.{Rose}
use Rattle.qz_io.specs.Files.{Files}
use Rattle.qz_io.specs.Told.{HasProperPart}
use Rattle.qz_io.specs.Transfers.{Input, source_shown}
use Rattle.qz_io.specs.declared.shelf.Shelf as shelf
use Rattle.qz_io.specs.declared.sink.Sink as sink
use Rattle.qz_io.specs.declared.source.Source as source
use Rattle.qz_top.specs.declared.status.Status.{Status}
use Rattle.qz_top.specs.declared.status.Status.TheVariants.{Ok, Memory, ReadFault, WriteFault, ShelfFault}
use Rattle.qz_top.specs.FaultTexts.{status_text}
use Rattle.qz_top.specs.Status.{IsRefusal}

-- ---- answers

-- the status, and the texts for the output and for the error stream
pub record Answer : Type 0 where
  pub status : Status
  pub out : List ℕ
  pub err : List ℕ

-- refused with this status: nothing for the output, and the status's text for the error stream
abbrev pub refused_with : Status → Answer
refused_with status = record { status = status; out = []; err = status_text status }

-- done, with these texts for the output and for the error stream
abbrev pub done_with : List ℕ → List ℕ → Answer
done_with text err = record { status = Ok; out = text; err = err }

-- done, with this text for the output and none for the error stream
abbrev pub done : List ℕ → Answer
done text = done_with text []

-- ---- what a call shows of the outside

-- what a call shows of an output: what it tells and how often it has failed, before and after; whether each fault is answered
pub record Output : Type 0 where
  pub written_before : Option (List ℕ)
  pub written_after : Option (List ℕ)
  pub faults_before : ℕ
  pub faults_after : ℕ
  pub answers_faults : Bool

-- what a call shows of a sink
abbrev pub sink_shown : {S : Type 0} → sink.Ghosts S → S → S → Output
sink_shown told before after = record { written_before = told.written before; written_after = told.written after; faults_before = told.faults before; faults_after = told.faults after; answers_faults = told.answers_faults }

-- what a call shows of a shelf: its files, where it tells them; how often it has failed, before and after; whether each fault is answered
pub record Storage : Type 0 where
  pub files : Option Files
  pub faults_before : ℕ
  pub faults_after : ℕ
  pub answers_faults : Bool

-- what a call shows of a shelf
abbrev pub shelf_shown : {S : Type 0} → shelf.Ghosts S → S → S → Storage
shelf_shown told before after = record { files = told.files before; faults_before = told.faults before; faults_after = told.faults after; answers_faults = told.answers_faults }

-- what a call shows of the outside
pub record Outside : Type 0 where
  pub input : Input
  pub shelf : Storage
  pub out : Output

-- what a call shows of a source, a shelf and a sink
abbrev pub shown : {I F O : Type 0} → source.Ghosts I → shelf.Ghosts F → sink.Ghosts O → I → I → F → F → O → O → Outside
shown source_told shelf_told sink_told input_before input_after shelf_before shelf_after out_before out_after =
    record { input = source_shown source_told input_before input_after; shelf = shelf_shown shelf_told shelf_before shelf_after; out = sink_shown sink_told out_before out_after }

-- what a command is given by the outside: the bytes that the input has left, and the files of the shelf
pub record Given : Type 0 where
  pub input : List ℕ
  pub files : Files

-- what is given is what is told, where it is told
abbrev pub IsTold : {A : Type 0} → Option A → A → Type 0
IsTold None given = Unit {0}
IsTold (Some told) given = told ≡ given

-- so are the bytes of the input and the files of the shelf
abbrev pub AreTold : Input → Storage → Given → Type 0
AreTold input shelf given = IsTold input.old given.input × IsTold shelf.files given.files

-- no fault of the shelf is counted
abbrev pub IsCalm : Storage → Type 0
IsCalm shelf = shelf.faults_after ≡ shelf.faults_before

-- ---- when a command is carried out

-- one of the answers ends well, and what the output tells has grown by its whole text
pub record Writes (Answers : Answer → Type 0) (out : Output) : Type 0 where
  pub answer : Answer
  pub is_answer : Answers answer
  pub done : answer.status ≡ Ok
  pub whole : out.written_after ≡ append_known out.written_before answer.out

-- one of the answers ends well, and what the output tells has grown by a prefix of its text that is not the whole text
pub record WritesPart (Answers : Answer → Type 0) (out : Output) : Type 0 where
  pub answer : Answer
  pub is_answer : Answers answer
  pub done : answer.status ≡ Ok
  pub part : HasProperPart out.written_before answer.out out.written_after

-- a text that is written ends with this status: it is written whole, or not all of it, and no fault is passed over
pub record IsWritten (text : List ℕ) (status : Status) (out : Output) : Type 0 where
  pub whole : status ≡ Ok → out.written_after ≡ append_known out.written_before text
  pub part : status ≢ Ok → HasProperPart out.written_before text out.written_after
  pub failed : status ≡ WriteFault → Rose out.faults_before out.faults_after
  pub answered : IsTrue out.answers_faults → status ≢ WriteFault → out.faults_after ≡ out.faults_before

-- A command with these answers to what it is given ends with this status. Where the outside does not tell what it gives,
-- the command is carried out as for something that may have been given.
pub record IsCarriedOut (Answers : Given → Answer → Type 0) (status : Status) (outside : Outside) : Type 0 where
  pub given : Given
  pub told : AreTold outside.input outside.shelf given
  -- it is refused only where that is the answer
  pub refused : IsRefusal status → Answers given (refused_with status)
  -- the whole text is written, or not all of it; where memory runs out, perhaps nothing
  pub ok : status ≡ Ok → Writes (Answers given) outside.out
  pub write_fault : status ≡ WriteFault → WritesPart (Answers given) outside.out
  pub memory : status ≡ Memory → (outside.out.written_after ≡ outside.out.written_before) ⊎ WritesPart (Answers given) outside.out
  -- there is a read fault, a fault of the shelf or a write fault only where the count of faults rose of the input, the shelf or the output
  pub read_failed : status ≡ ReadFault → Rose outside.input.faults_before outside.input.faults_after
  pub shelf_failed : status ≡ ShelfFault → Rose outside.shelf.faults_before outside.shelf.faults_after
  pub write_failed : status ≡ WriteFault → Rose outside.out.faults_before outside.out.faults_after
  -- where the answer is a refusal, and neither the input's count nor the shelf's rose, it comes, or memory ran out
  pub refuses : (answer : Answer) → Answers given answer → IsRefusal answer.status → (Rose outside.input.faults_before outside.input.faults_after → ⊥) → (Rose outside.shelf.faults_before outside.shelf.faults_after → ⊥) → (status ≡ answer.status) ⊎ (status ≡ Memory)
  -- where no count rose, the status is that of the answer, or memory ran out
  pub complete : (answer : Answer) → Answers given answer → (Rose outside.input.faults_before outside.input.faults_after → ⊥) → (Rose outside.shelf.faults_before outside.shelf.faults_after → ⊥) → (Rose outside.out.faults_before outside.out.faults_after → ⊥) → (status ≡ answer.status) ⊎ (status ≡ Memory)
  -- where each fault is answered, none is passed over
  pub read_answered : IsTrue outside.input.answers_faults → status ≢ ReadFault → outside.input.faults_after ≡ outside.input.faults_before
  pub shelf_answered : IsTrue outside.shelf.answers_faults → status ≢ ShelfFault → outside.shelf.faults_after ≡ outside.shelf.faults_before
  pub write_answered : IsTrue outside.out.answers_faults → status ≢ WriteFault → outside.out.faults_after ≡ outside.out.faults_before
