-- When answers are carried out.
use Rattle.std.proofs.Common.{◌≡◌, ◌≢◌, ℕ, List, [], Option, Some, None, Result, Ok, Err, IsTrue, true, refl, subst, sym, ap, inl, inr, arith}
use Rattle.std.specs.Prelude.{◌⊎◌, MatchResult}
use Rattle.qz_io.specs.Counts.{Rose}
use Rattle.qz_io.specs.Files.{Files}
use Rattle.qz_io.specs.Transfers.{Input}
use Rattle.qz_top.specs.declared.status.Status.{Status}
use Rattle.qz_top.specs.declared.status.Status.TheVariants as status
use Rattle.qz_top.specs.declared.words.Command.{Command}
use Rattle.qz_top.specs.declared.words.WordFault.{WordFault}
use Rattle.qz_top.specs.declared.words.WordFault.TheVariants as word_fault
use Rattle.qz_top.specs.Status.{IsRefusal, IsBeforeInput, WritesNothing}
use Rattle.qz_top.specs.Answer.{Answer, Given, Output, Storage, Outside, IsTold, AreTold, IsCalm, refused_with, done_with, IsWritten, IsCarriedOut}
use Rattle.qz_top.specs.Making.{IsToBeWritten, EndsEarly, EndsUnread}
use Rattle.qz_top.specs.Run.{status_of_words, CommandAnswers, WordsAnswer}
use Rattle.qz_top.specs.Words.{command_of}

-- ---- statuses

-- a refusal writes nothing
refusal_writes_nothing : (s : Status) → IsRefusal s → WritesNothing s
refusal_writes_nothing status.Ok r = r
refusal_writes_nothing status.Memory r = r
refusal_writes_nothing status.Usage r = tt
refusal_writes_nothing (status.Limit which) r = tt
refusal_writes_nothing (status.Qasm fault) r = tt
refusal_writes_nothing (status.RuleSyntax place) r = tt
refusal_writes_nothing (status.Unsound class member) r = tt
refusal_writes_nothing status.NoFile r = tt
refusal_writes_nothing status.ReadFault r = tt
refusal_writes_nothing status.WriteFault r = r
refusal_writes_nothing status.ShelfFault r = tt
refusal_writes_nothing (status.Shapes input file) r = tt
refusal_writes_nothing (status.FileQasm fault) r = tt

-- at a status that comes before any input nothing is written
pub before_writes_nothing : (s : Status) → IsBeforeInput s → WritesNothing s
before_writes_nothing status.Ok b = b
before_writes_nothing status.Memory b = b
before_writes_nothing status.Usage b = tt
before_writes_nothing (status.Limit which) b = tt
before_writes_nothing (status.Qasm fault) b = absurd b
before_writes_nothing (status.RuleSyntax place) b = tt
before_writes_nothing (status.Unsound class member) b = tt
before_writes_nothing status.NoFile b = tt
before_writes_nothing status.ReadFault b = absurd b
before_writes_nothing status.WriteFault b = b
before_writes_nothing status.ShelfFault b = tt
before_writes_nothing (status.Shapes input file) b = absurd b
before_writes_nothing (status.FileQasm fault) b = tt

-- what is left of the statuses where something may be written, and there is no write fault
done_or_memory : (s : Status) → (WritesNothing s → ⊥) → s ≢ status.WriteFault → (s ≡ status.Ok) ⊎ (s ≡ status.Memory)
done_or_memory status.Ok n w = inl refl
done_or_memory status.Memory n w = inr refl
done_or_memory status.Usage n w = absurd (n tt)
done_or_memory (status.Limit which) n w = absurd (n tt)
done_or_memory (status.Qasm fault) n w = absurd (n tt)
done_or_memory (status.RuleSyntax place) n w = absurd (n tt)
done_or_memory (status.Unsound class member) n w = absurd (n tt)
done_or_memory status.NoFile n w = absurd (n tt)
done_or_memory status.ReadFault n w = absurd (n tt)
done_or_memory status.WriteFault n w = absurd (w refl)
done_or_memory status.ShelfFault n w = absurd (n tt)
done_or_memory (status.Shapes input file) n w = absurd (n tt)
done_or_memory (status.FileQasm fault) n w = absurd (n tt)

-- a refusal is not success
refusal_is_not_ok : (s : Status) → IsRefusal s → s ≢ status.Ok
refusal_is_not_ok s r e = subst IsRefusal e r

-- ---- what is given

-- something is given, which is what is told, where it is told
some_told : {A : Type 0} → A → (told : Option A) → (given : A) × IsTold told given
some_told other None = (other, tt)
some_told other (Some told) = (told, refl)

-- an input may have been given
pub some_input : (told : Option (List ℕ)) → (bytes : List ℕ) × IsTold told bytes
some_input told = some_told [] told

-- files may have been given
pub some_files : (told : Option Files) → (files : Files) × IsTold told files
some_files told = some_told (λ name. None) told

-- both may have been given
pub some_given : (input : Input) (shelf : Storage) → (given : Given) × AreTold input shelf given
some_given input shelf =
    let bytes = some_input input.old in
    let files = some_files shelf.files in
    (record { input = bytes.0; files = files.0 }, (bytes.1, files.1))

-- a shelf on which nothing happens
abbrev pub still : Storage
still = record { files = None; faults_before = 0; faults_after = 0; answers_faults = true }

-- its count doesn't rise
pub still_not_rose : Rose 0 0 → ⊥
still_not_rose (inl more) = absurd (omega arith)
still_not_rose (inr last) = absurd (omega (arith, last))

-- ---- commands

-- a text that is to be written is handed to the output
pub carried_by_text : (Answers : Given → Answer → Type 0) (text handed : List ℕ) (s : Status) (outside : Outside) → IsToBeWritten Answers text outside.input outside.shelf →
    (WritesNothing s → ⊥) → handed ≡ text → IsWritten handed s outside.out → IsCarriedOut Answers s outside
carried_by_text Answers text handed s outside made begun same written_so =
    let written : IsWritten text s outside.out = subst (λ (t : List ℕ). IsWritten t s outside.out) same written_so in
    record {
      given = made.given;
      told = made.told;
      refused = λ r. absurd (begun (refusal_writes_nothing s r));
      ok = λ e. record { answer = done_with text made.err; is_answer = made.is_answer; done = refl; whole = written.whole e };
      write_fault = λ e. record { answer = done_with text made.err; is_answer = made.is_answer; done = refl; part = written.part (λ k. cc (e, k)) };
      memory = λ e. inr (record { answer = done_with text made.err; is_answer = made.is_answer; done = refl; part = written.part (λ k. cc (e, k)) });
      read_failed = λ e. absurd (begun (subst WritesNothing (sym e) tt));
      shelf_failed = λ e. absurd (begun (subst WritesNothing (sym e) tt));
      write_failed = written.failed;
      refuses = λ b h r calm quiet. absurd (refusal_is_not_ok b.status r (made.well b h));
      complete = λ b h calm quiet still. elim (done_or_memory s begun (λ e. still (written.failed e))) [ inl e ↦ inl (cc (e, made.well b h)) | inr e ↦ inr e ];
      read_answered = λ answers k. made.answered answers;
      shelf_answered = λ answers k. made.shelf_answered answers;
      write_answered = written.answered;
    }

-- what ends a command early with a status: where the status comes from, and what it passes over
pub record Ending (Answers : Given → Answer → Type 0) (s : Status) (input : Input) (shelf : Storage) (given : Given) : Type 0 where
  pub told : AreTold input shelf given
  pub refused : IsRefusal s → Answers given (refused_with s)
  pub read_failed : s ≡ status.ReadFault → Rose input.faults_before input.faults_after
  pub shelf_failed : s ≡ status.ShelfFault → Rose shelf.faults_before shelf.faults_after
  pub complete : (b : Answer) → Answers given b → (Rose input.faults_before input.faults_after → ⊥) → (Rose shelf.faults_before shelf.faults_after → ⊥) → (s ≡ b.status) ⊎ (s ≡ status.Memory)
  pub answered : IsTrue input.answers_faults → s ≢ status.ReadFault → input.faults_after ≡ input.faults_before
  pub shelf_answered : IsTrue shelf.answers_faults → s ≢ status.ShelfFault → shelf.faults_after ≡ shelf.faults_before

-- a command ends early with a status that is neither success nor a write fault
ends_early : (Answers : Given → Answer → Type 0) (s : Status) (input : Input) (shelf : Storage) (given : Given) → s ≢ status.Ok → s ≢ status.WriteFault → Ending Answers s input shelf given → EndsEarly Answers s input shelf
ends_early Answers s input shelf given not_done no_write ending = record {
  not_done = not_done;
  carried_out = λ out written faults. record {
    given = given;
    told = ending.told;
    refused = ending.refused;
    ok = λ e. absurd (not_done e);
    write_fault = λ e. absurd (no_write e);
    memory = λ e. inl written;
    read_failed = ending.read_failed;
    shelf_failed = ending.shelf_failed;
    write_failed = λ e. absurd (no_write e);
    refuses = λ b h r calm quiet. ending.complete b h calm quiet;
    complete = λ b h calm quiet still. ending.complete b h calm quiet;
    read_answered = ending.answered;
    shelf_answered = ending.shelf_answered;
    write_answered = λ answers k. faults;
  };
}

-- so it does for want of memory
pub memory_ends : (Answers : Given → Answer → Type 0) (input : Input) (shelf : Storage) (given : Given) → AreTold input shelf given → (IsTrue input.answers_faults → input.faults_after ≡ input.faults_before) →
    (IsTrue shelf.answers_faults → shelf.faults_after ≡ shelf.faults_before) → EndsEarly Answers status.Memory input shelf
memory_ends Answers input shelf given told answered shelf_answered =
    ends_early Answers status.Memory input shelf given (λ e. cc) (λ e. cc) (record {
      told = told;
      refused = λ r. absurd r;
      read_failed = λ e. absurd cc;
      shelf_failed = λ e. absurd cc;
      complete = λ b h calm quiet. inr refl;
      answered = λ answers k. answered answers;
      shelf_answered = λ answers k. shelf_answered answers;
    })

-- a command whose answers don't depend on the outside, where neither the input nor the shelf has a fault
module _ (Answers : Answer → Type 0) (input : Input) (shelf : Storage) (out : Output) (calm : input.faults_after ≡ input.faults_before) (quiet : IsCalm shelf) where
  abbrev given : (given : Given) × AreTold input shelf given
  given = some_given input shelf

  -- its text is handed to the output
  pub carried_alone : (text err handed : List ℕ) (s : Status) → Answers (done_with text err) → ((answer : Answer) → Answers answer → answer.status ≡ status.Ok) →
      (WritesNothing s → ⊥) → handed ≡ text → IsWritten handed s out → IsCarriedOut (λ _. Answers) s (record { input = input; shelf = shelf; out = out })
  carried_alone text err handed s is well begun same written =
      carried_by_text (λ _. Answers) text handed s _ (record { given = given.0; told = given.1; err = err; is_answer = is; well = well; answered = λ _. calm; shelf_answered = λ _. quiet }) begun same written

  -- or memory runs out before
  pub memory_alone : out.written_after ≡ out.written_before → out.faults_after ≡ out.faults_before → IsCarriedOut (λ _. Answers) status.Memory (record { input = input; shelf = shelf; out = out })
  memory_alone = (memory_ends (λ _. Answers) input shelf given.0 given.1 (λ _. calm) (λ _. quiet)).carried_out out

-- so it does by a refusal that is the only answer
pub refusal_ends : (Answers : Given → Answer → Type 0) (s : Status) (input : Input) (shelf : Storage) (given : Given) → AreTold input shelf given → IsRefusal s → Answers given (refused_with s) → ((b : Answer) → Answers given b → b.status ≡ s) →
    (IsTrue input.answers_faults → input.faults_after ≡ input.faults_before) → (IsTrue shelf.answers_faults → shelf.faults_after ≡ shelf.faults_before) → EndsEarly Answers s input shelf
refusal_ends Answers s input shelf given told refusal is only answered shelf_answered =
    let other : (t : Status) → (IsRefusal t → ⊥) → s ≢ t = λ t free e. free (subst IsRefusal e refusal) in
    ends_early Answers s input shelf given (other status.Ok (λ r. r)) (other status.WriteFault (λ r. r)) (record {
      told = told;
      refused = λ r. is;
      read_failed = λ e. absurd (other status.ReadFault (λ r. r) e);
      shelf_failed = λ e. absurd (other status.ShelfFault (λ r. r) e);
      complete = λ b h calm quiet. inl (sym (only b h));
      answered = λ answers k. answered answers;
      shelf_answered = λ answers k. shelf_answered answers;
    })

-- so it does by a read fault
pub read_fault_ends : (Answers : Given → Answer → Type 0) (input : Input) (shelf : Storage) (given : Given) → AreTold input shelf given → Rose input.faults_before input.faults_after → (IsTrue shelf.answers_faults → shelf.faults_after ≡ shelf.faults_before) → EndsEarly Answers status.ReadFault input shelf
read_fault_ends Answers input shelf given told rose shelf_answered =
    ends_early Answers status.ReadFault input shelf given (λ e. cc) (λ e. cc) (record {
      told = told;
      refused = λ r. absurd r;
      read_failed = λ e. rose;
      shelf_failed = λ e. absurd cc;
      complete = λ b h calm k. absurd (calm rose);
      answered = λ answers k. absurd (k refl);
      shelf_answered = λ answers k. shelf_answered answers;
    })

-- so it does by a fault of the shelf
pub shelf_fault_ends : (Answers : Given → Answer → Type 0) (input : Input) (shelf : Storage) (given : Given) → AreTold input shelf given → (IsTrue input.answers_faults → input.faults_after ≡ input.faults_before) →
    Rose shelf.faults_before shelf.faults_after → EndsEarly Answers status.ShelfFault input shelf
shelf_fault_ends Answers input shelf given told answered rose =
    ends_early Answers status.ShelfFault input shelf given (λ e. cc) (λ e. cc) (record {
      told = told;
      refused = λ r. absurd r;
      read_failed = λ e. absurd cc;
      shelf_failed = λ e. rose;
      complete = λ b h calm quiet. absurd (quiet rose);
      answered = λ answers k. answered answers;
      shelf_answered = λ answers k. absurd (k refl);
    })

-- an input from which nothing is read, and an output to which nothing is written
abbrev still_input : Input
still_input = record { old = None; new = None; faults_before = 0; faults_after = 0; answers_faults = true }

abbrev still_output : Output
still_output = record { written_before = None; written_after = None; faults_before = 0; faults_after = 0; answers_faults = true }

-- a command that reads no input has no read fault
pub no_read_fault : (Answers : Given → Answer → Type 0) (s : Status) (shelf : Storage) → EndsUnread Answers s shelf → s ≡ status.ReadFault → ⊥
no_read_fault Answers s shelf ends e = still_not_rose (((ends still_input refl).carried_out still_output refl refl).read_failed e)

-- ---- words

-- the answers to words that ask for a command are the command's
pub words_carried : (words : List (List ℕ)) (command : Command) (s : Status) (outside : Outside) → Ok command ≡ command_of words → IsCarriedOut (CommandAnswers words command) s outside → IsCarriedOut (WordsAnswer words) s outside
words_carried words command s outside e carried =
    subst (λ (r : Result Command WordFault). IsCarriedOut (λ given answer. MatchResult r (λ k. CommandAnswers words k given answer) (λ refused. answer ≡ refused_with (status_of_words refused))) s outside) e carried

-- words are refused by a refusal
words_refusal : (fault : WordFault) → IsRefusal (status_of_words fault)
words_refusal word_fault.Usage = tt
words_refusal (word_fault.Limit which) = tt

-- and not by a fault of the shelf
pub words_no_shelf_fault : (fault : WordFault) → status_of_words fault ≡ status.ShelfFault → ⊥
words_no_shelf_fault fault e = subst IsRefusal e (words_refusal fault)

-- the answer to words that ask for no command is their refusal, before the outside is touched
pub words_refused : (words : List (List ℕ)) (fault : WordFault) (input : Input) (shelf : Storage) → Err fault ≡ command_of words → input.faults_after ≡ input.faults_before → IsCalm shelf → EndsEarly (WordsAnswer words) (status_of_words fault) input shelf
words_refused words fault input shelf e calm quiet =
    let given = some_given input shelf in
    subst (λ (r : Result Command WordFault). EndsEarly (λ given answer. MatchResult r (λ k. CommandAnswers words k given answer) (λ refused. answer ≡ refused_with (status_of_words refused))) (status_of_words fault) input shelf) e
    (refusal_ends (λ given answer. answer ≡ refused_with (status_of_words fault)) (status_of_words fault) input shelf given.0 given.1 (words_refusal fault) refl (λ b h. ap (λ (a : Answer). a.status) h) (λ _. calm) (λ _. quiet))
