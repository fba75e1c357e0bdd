-- The answers of the program to its words.
use Rattle.std.specs.Prelude.{◌≡◌, ◌≢◌, ℕ, List, [], Option, Some, None, Result, Ok, Err, slice_index_or, MatchResult}
use Rattle.std.specs.Io.KnownBytes.{append_known}
use Rattle.qz_io.specs.Told.{HasPart}
use Rattle.qz_top.specs.declared.files.FileLimit.{FileLimit}
use Rattle.qz_top.specs.declared.words.Command.{Command}
use Rattle.qz_top.specs.declared.words.Command.TheVariants.{Generate, Tidy, Optimise, Trial, Check}
use Rattle.qz_top.specs.declared.words.WordFault.{WordFault}
use Rattle.qz_top.specs.declared.words.WordFault.TheVariants as fault
use Rattle.qz_top.specs.declared.status.Status.{Status}
use Rattle.qz_top.specs.declared.status.Status.TheVariants as status
use Rattle.qz_top.specs.Answer.{Answer, Given, Storage, refused_with}
use Rattle.qz_top.specs.FaultTexts.{status_text}
use Rattle.qz_top.specs.Reports.{IsReportWhere}
use Rattle.qz_top.specs.Words.{command_of}
use Rattle.qz_top.specs.Generate.{Generates}
use Rattle.qz_top.specs.Tidy.{Tidies}
use Rattle.qz_top.specs.Making.{HasRules}
use Rattle.qz_top.specs.Optimise.{rule_file, Optimises}
use Rattle.qz_top.specs.Check.{program_file, Checks, HasProgram}
use Rattle.qz_top.specs.Trial.{Tries}

-- the status of words that are refused
abbrev pub status_of_words : WordFault → Status
status_of_words fault.Usage = status.Usage
status_of_words (fault.Limit which) = status.Limit which

-- the answers of a command to what it is given, whatever the workers are; a number stands for one of the words
abbrev pub CommandAnswers : List (List ℕ) → Command → Given → Answer → Type 0
CommandAnswers words (Generate bounds workers seed report) given answer = Generates bounds seed report answer
CommandAnswers words Tidy given answer = Tidies given answer
CommandAnswers words (Optimise rules plan workers) given answer = Optimises (slice_index_or words rules []) plan given answer
CommandAnswers words (Trial seed q g) given answer = Tries seed q g answer
CommandAnswers words (Check other) given answer = Checks (slice_index_or words other []) given answer

-- the answers to words and to what is given: those of the command that they ask for, or their refusal
abbrev pub WordsAnswer : List (List ℕ) → Given → Answer → Type 0
WordsAnswer words given answer = MatchResult (command_of words) (λ command. CommandAnswers words command given answer) (λ refused. answer ≡ refused_with (status_of_words refused))

-- the command needs a program, and all that comes before it is passed: for an optimisation the rules are read, and for a check
-- the program of the file
abbrev pub CommandNeedsProgram : List (List ℕ) → Command → Storage → Type 0
CommandNeedsProgram words (Generate bounds workers seed report) shelf = ⊥
CommandNeedsProgram words Tidy shelf = Unit {0}
CommandNeedsProgram words (Optimise rules plan workers) shelf = HasRules (slice_index_or words rules []) shelf
CommandNeedsProgram words (Trial seed q g) shelf = ⊥
CommandNeedsProgram words (Check other) shelf = HasProgram (slice_index_or words other []) shelf

-- so does the command that the words ask for
abbrev pub NeedsProgram : List (List ℕ) → Storage → Type 0
NeedsProgram words shelf = MatchResult (command_of words) (λ command. CommandNeedsProgram words command shelf) (λ refused. ⊥)

-- the command is about the program that the input is
abbrev pub IsOfProgram : Command → Type 0
IsOfProgram (Generate bounds workers seed report) = ⊥
IsOfProgram Tidy = Unit {0}
IsOfProgram (Optimise rules plan workers) = Unit {0}
IsOfProgram (Trial seed q g) = ⊥
IsOfProgram (Check other) = Unit {0}

-- the words ask for such a command
abbrev pub AsksOfProgram : List (List ℕ) → Type 0
AsksOfProgram words = MatchResult (command_of words) IsOfProgram (λ refused. ⊥)

-- ---- the named file

-- a file that a command opens: the number of the word that names it, and how long it is at most
pub record NamedFile : Type 0 where
  pub word : ℕ
  pub limit : FileLimit

-- the file that a command opens
abbrev pub file_of : Command → Option NamedFile
file_of (Generate bounds workers seed report) = None
file_of Tidy = None
file_of (Optimise rules plan workers) = Some (record { word = rules; limit = rule_file })
file_of (Trial seed q g) = None
file_of (Check other) = Some (record { word = other; limit = program_file })

-- the file that the command opens for which words ask, if they ask for one
abbrev pub file_said : Result Command WordFault → Option NamedFile
file_said (Ok command) = file_of command
file_said (Err refused) = None

abbrev pub file_asked : List (List ℕ) → Option NamedFile
file_asked words = file_said (command_of words)

-- ---- the error stream

-- the text for the error stream of a command that is done: a generation's report where it is wanted, and else none
abbrev pub TellsDone : Command → List ℕ → Type 0
TellsDone (Generate bounds workers seed report) text = IsReportWhere bounds seed report text
TellsDone Tidy text = text ≡ []
TellsDone (Optimise rules plan workers) text = text ≡ []
TellsDone (Trial seed q g) text = text ≡ []
TellsDone (Check other) text = text ≡ []

-- the text for the error stream of a command that ends with this status: that of what is done, or of the status
pub record IsForErr (command : Command) (s : Status) (text : List ℕ) : Type 0 where
  pub done : s ≡ status.Ok → TellsDone command text
  pub not_done : s ≢ status.Ok → text ≡ status_text s

-- what a stream tells has grown by a part of the text, and by the whole text unless one of the stream's counts rose
pub record Tells (text : List ℕ) (old new : Option (List ℕ)) (rose : Type 0) : Type 0 where
  pub part : HasPart old text new
  pub whole : (rose → ⊥) → new ≡ append_known old text
