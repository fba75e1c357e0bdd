-- What is made of an input that is tidied.
use Rattle.std.proofs.Common.{◌≡◌, ℕ, List}
use Rattle.qz_circ.specs.ProgramText.{program_text}
use Rattle.qz_io.specs.Files.{Files}
use Rattle.qz_io.specs.Transfers.{Input}
use Rattle.qz_top.specs.declared.status.Status.{Status}
use Rattle.qz_top.specs.Answer.{Storage, IsCalm}
use Rattle.qz_top.specs.Making.{IsToBeWritten, EndsEarly, IsMadeOfInput, EndsByInput}
use Rattle.qz_top.specs.Tidy.{Tidies}
use Rattle.qz_top.proofs.AnswerLemmas.{some_files}
use Rattle.qz_top.proofs.InputLemmas.{AreOfInput, ends_by_input, written_by_input}

-- the answers are those to the input, whatever the files are
of_any_files : (files : Files) → AreOfInput Tidies program_text files
of_any_files files = record { is = λ bytes b h. h; only = λ bytes b h. h }

pub tidied_written : (text : List ℕ) (input : Input) (shelf : Storage) → IsMadeOfInput (λ p. text ≡ program_text p) input → IsCalm shelf → IsToBeWritten Tidies text input shelf
tidied_written text input shelf made quiet =
    let files = some_files shelf.files in
    written_by_input Tidies program_text files.0 (of_any_files files.0) input shelf files.1 (λ _. quiet) made.program text made.read made.made

pub tidied_ends : (s : Status) (input : Input) (shelf : Storage) → EndsByInput s input → IsCalm shelf → EndsEarly Tidies s input shelf
tidied_ends s input shelf ends quiet =
    let files = some_files shelf.files in
    ends_by_input Tidies program_text files.0 (of_any_files files.0) input shelf files.1 (λ _. quiet) s ends
