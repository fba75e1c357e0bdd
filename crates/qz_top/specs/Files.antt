-- The file that a command opens: the answers to it, how it is read, and how much of it is taken.
use Rattle.std.specs.Prelude.{◌≡◌, ◌≢◌, ℕ, ◌+◌, ◌<◌, ◌≤◌, ◌⊎◌, true, IsTrue, List, length, Option, Some, None, Result, MatchResult}
use Rattle.qz_io.specs.Counts.{Rose}
use Rattle.qz_io.specs.Files.{Files, TellsWhether, IsWholeFile}
use Rattle.qz_io.specs.Told.{TakesBytes}
use Rattle.qz_io.specs.declared.fault.IoFault.{IoFault}
use Rattle.qz_io.specs.declared.fault.IoFault.TheVariants as opening
use Rattle.qz_io.specs.declared.transfers.Unread.{Unread}
use Rattle.qz_io.specs.declared.transfers.Unread.TheVariants as unread
use Rattle.qz_top.specs.declared.files.FileLimit.{FileLimit}
use Rattle.qz_top.specs.declared.status.Status.{Status}
use Rattle.qz_top.specs.declared.status.Status.TheVariants as status
use Rattle.qz_top.specs.Answer.{Answer, Given, Storage, IsTold, refused_with}

-- ---- answers

-- the status where a file isn't read whole
abbrev pub status_of_unread_file : FileLimit → Unread → Status
status_of_unread_file limit unread.TooLong = status.Limit limit.which
status_of_unread_file limit unread.Failed = status.ShelfFault
status_of_unread_file limit unread.Memory = status.Memory

-- the status where a file isn't opened
abbrev pub status_of_opening : IoFault → Status
status_of_opening opening.Failed = status.ShelfFault
status_of_opening opening.Memory = status.Memory

-- the answers to a file that is there or not: that there is none, that it is too long, or those to its bytes
abbrev pub FileAnswer : FileLimit → (List ℕ → Answer → Type 0) → Option (List ℕ) → Answer → Type 0
FileAnswer limit BytesAnswer None answer = answer ≡ refused_with status.NoFile
FileAnswer limit BytesAnswer (Some file) answer =
    ((limit.most < length file) × (answer ≡ refused_with (status.Limit limit.which))) ⊎ ((length file ≤ limit.most) × BytesAnswer file answer)

-- the answers to what is given, by the file with this name
abbrev pub NamedAnswer : FileLimit → List ℕ → (Given → List ℕ → Answer → Type 0) → Given → Answer → Type 0
NamedAnswer limit name BytesAnswer given answer = FileAnswer limit (BytesAnswer given) (given.files name) answer

-- ---- how a file is read

-- the file with this name was opened, and the shelf tells this to be its rest; no fault of the shelf is passed over
pub record IsOpened (name : List ℕ) (rest : Option (List ℕ)) (shelf : Storage) : Type 0 where
  pub found : TellsWhether shelf.files name true
  pub whole : IsWholeFile shelf.files name rest
  pub faults : shelf.faults_before ≤ shelf.faults_after
  pub answered : IsTrue shelf.answers_faults → shelf.faults_after ≡ shelf.faults_before

-- no fault of the shelf is passed over
abbrev pub IsShelfAnswered : Storage → Type 0
IsShelfAnswered shelf = IsTrue shelf.answers_faults → shelf.faults_after ≡ shelf.faults_before

-- the bytes are those of the file with this name, within the limit, and no fault of the shelf is passed over
pub record IsFileRead (limit : FileLimit) (name bytes : List ℕ) (shelf : Storage) : Type 0 where
  pub files : Files
  pub told : IsTold shelf.files files
  pub named : files name ≡ Some bytes
  pub short : length bytes ≤ limit.most
  pub answered : IsShelfAnswered shelf

-- the file that is there or not is refused by this status: there is none, or it is too long
abbrev pub RefusesFile : FileLimit → Status → Option (List ℕ) → Type 0
RefusesFile limit s None = s ≡ status.NoFile
RefusesFile limit s (Some file) = (limit.most < length file) × (s ≡ status.Limit limit.which)

-- so is the file with this name, and no fault of the shelf is passed over
pub record IsFileRefused (limit : FileLimit) (name : List ℕ) (s : Status) (shelf : Storage) : Type 0 where
  pub files : Files
  pub told : IsTold shelf.files files
  pub refuses : RefusesFile limit s (files name)
  pub answered : IsShelfAnswered shelf

-- a command that needs the file with this name ends so for it: it is refused, or memory ran out, or the shelf failed
abbrev pub EndsByFile : FileLimit → List ℕ → Status → Storage → Type 0
EndsByFile limit name s shelf = IsFileRefused limit name s shelf ⊎ (((s ≡ status.Memory) × IsShelfAnswered shelf) ⊎ ((s ≡ status.ShelfFault) × Rose shelf.faults_before shelf.faults_after))

-- ---- how much of a file is taken

-- the shelf tells that this is the file with this name
abbrev pub TellsFile : Option Files → List ℕ → List ℕ → Type 0
TellsFile None name file = ⊥
TellsFile (Some files) name file = files name ≡ Some file

-- this is left of the file where a command that opened it ends with this status: at most one byte past the limit is taken, and only
-- where that limit is told
pub record IsFileTaken (limit : FileLimit) (file : List ℕ) (left : Option (List ℕ)) (s : Status) : Type 0 where
  pub taken : TakesBytes (Some file) left (λ n. n ≤ limit.most + 1)
  pub within : s ≢ status.Limit limit.which → TakesBytes (Some file) left (λ n. n ≤ limit.most)

-- the file isn't opened: the shelf failed or memory ran out, and what is told to be left of an open file is as it was
abbrev pub IsFileUnopened : Option (List ℕ) → Option (List ℕ) → Status → Type 0
IsFileUnopened before after s = ((s ≡ status.ShelfFault) ⊎ (s ≡ status.Memory)) × (after ≡ before)

-- the file is taken so, or isn't opened
abbrev pub TakesFile : FileLimit → List ℕ → Option (List ℕ) → Option (List ℕ) → Status → Type 0
TakesFile limit file before after s = IsFileTaken limit file after s ⊎ IsFileUnopened before after s

-- what the file is read for is made and no byte past the limit is taken; or a command ends before, and the file is taken so
abbrev pub TakesFileFor : {R : Type 0} → FileLimit → List ℕ → Option (List ℕ) → Option (List ℕ) → Result R Status → Type 0
TakesFileFor limit file before after made = MatchResult made (λ _. TakesBytes (Some file) after (λ n. n ≤ limit.most)) (TakesFile limit file before after)
