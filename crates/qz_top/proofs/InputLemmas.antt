-- What is made of the input of a command that needs a program.
use Rattle.std.proofs.Common.{◌≡◌, ◌≢◌, ℕ, ◌+◌, ◌<◌, ◌≤◌, List, [], ◌++◌, length, Vec, Option, Some, None, Result, Ok, Err, cond, refl, subst, sym, ap, ◌∙◌, inl, inr, append-nil, length-append, arith}
use Rattle.std.specs.Prelude.{◌⊎◌, IsTrue, MatchResult}
use Rattle.std.specs.Io.KnownBytes.{prepend_known, IsAtEnd}
use Rattle.std.proofs.lemmas.Bool.{le-ltb, lt-ltb}
use Rattle.qz_circ.specs.declared.fault.LexFault.TheVariants as lexical
use Rattle.qz_circ.specs.declared.fault.QasmFault.{QasmFault}
use Rattle.qz_circ.specs.declared.fault.QasmFault.TheVariants as fault
use Rattle.qz_circ.specs.declared.fault.Which.{Which}
use Rattle.qz_circ.specs.declared.fault.Which.TheVariants as which_limit
use Rattle.qz_circ.specs.Grammar.{program_of}
use Rattle.qz_circ.specs.Programs.{ProgramParts}
use Rattle.qz_io.specs.declared.transfers.Unread.{Unread}
use Rattle.qz_io.specs.declared.transfers.Unread.TheVariants as unread
use Rattle.qz_io.specs.Files.{Files}
use Rattle.qz_io.specs.Transfers.{Input, IsReadWhole}
use Rattle.qz_qread.specs.ProgramLimits.{IsProgramLimit}
use Rattle.qz_qread.proofs.ValidReadings.{limits_are_of_programs}
use Rattle.qz_top.specs.declared.status.Status.{Status}
use Rattle.qz_top.specs.declared.status.Status.TheVariants as status
use Rattle.qz_top.specs.Status.{IsRefusal, IsLimitBeforeInput, IsBeforeInput}
use Rattle.qz_top.specs.Answer.{Answer, Given, Storage, IsTold, refused_with, done}
use Rattle.qz_top.specs.Inputs.{most_input_bytes, status_of_fault, status_of_unread, program_answer, input_answer}
use Rattle.qz_top.specs.Making.{IsToBeWritten, EndsEarly, IsAnswered, IsProgramRead, IsMadeOfInput, RefusesBytes, EndsByInput}
use Rattle.qz_top.proofs.AnswerLemmas.{some_input, memory_ends, refusal_ends, read_fault_ends}

-- ---- answers to bytes

-- an input within the limit is answered by its program
pub short_answer : (text : ProgramParts → List ℕ) (bytes : List ℕ) → length bytes ≤ most_input_bytes → input_answer text bytes ≡ program_answer text (program_of bytes)
unfolding input_answer
short_answer text bytes few = ap (λ b. cond b (refused_with (status.Limit which_limit.InputBytes)) (program_answer text (program_of bytes))) (le-ltb most_input_bytes (length bytes) few)

-- a longer one is refused
pub long_answer : (text : ProgramParts → List ℕ) (bytes : List ℕ) → most_input_bytes < length bytes → input_answer text bytes ≡ refused_with (status.Limit which_limit.InputBytes)
unfolding input_answer
long_answer text bytes many = ap (λ b. cond b (refused_with (status.Limit which_limit.InputBytes)) (program_answer text (program_of bytes))) (lt-ltb most_input_bytes (length bytes) many)

-- the status of a fault is a refusal, or memory ran out
fault_cases : (e : QasmFault) → (IsRefusal (status_of_fault e) × (e ≢ fault.Memory)) ⊎ (status_of_fault e ≡ status.Memory)
fault_cases (fault.Limit which place) = inl (tt, λ h. cc)
fault_cases fault.Memory = inr refl
fault_cases (fault.Lex lexical.Memory) = inr refl
fault_cases (fault.Lex e) = inl (tt, λ h. cc)
fault_cases e = inl (tt, λ h. cc)

-- a limit of programs is none that comes before the input
late_limit : (which : Which) → IsProgramLimit which → IsLimitBeforeInput which → ⊥
late_limit which_limit.ProgramRegisters of_programs before = before
late_limit which_limit.ProgramQubits of_programs before = before
late_limit which_limit.ProgramBits of_programs before = before
late_limit which_limit.ProgramGates of_programs before = before
late_limit _ of_programs before = of_programs

-- the status of a program's fault is none that comes before the input
late_fault : (bytes : List ℕ) (e : QasmFault) → program_of bytes ≡ Err e → ¬ IsBeforeInput (status_of_fault e)
late_fault bytes (fault.Limit which place) is = λ b. late_limit which (limits_are_of_programs bytes which place is) b
late_fault bytes fault.Memory is = λ b. b
late_fault bytes (fault.Lex lexical.Memory) is = λ b. b
late_fault bytes (fault.Lex e) is = λ b. b
late_fault bytes e is = λ b. b

-- a fault is answered by its status
pub fault_refuses : (bytes : List ℕ) (e : QasmFault) → length bytes ≤ most_input_bytes → (e ≢ fault.Memory → program_of bytes ≡ Err e) →
    RefusesBytes (status_of_fault e) bytes ⊎ (status_of_fault e ≡ status.Memory)
fault_refuses bytes e few is =
    elim (fault_cases e) [
      | inl w ↦ inl (record { refusal = w.0; late = late_fault bytes e (is w.1); answer = λ text. short_answer text bytes few ∙ ap (program_answer text) (is w.1) })
      | inr m ↦ inr m
    ]

-- ---- inputs

-- all that was read is what was told
whole_is_told : (o n : Option (List ℕ)) (bytes : List ℕ) → o ≡ prepend_known bytes n → IsAtEnd n → IsTold o bytes
whole_is_told o None bytes taken end = subst (λ t. IsTold t bytes) (sym taken) tt
whole_is_told o (Some rest) bytes taken end = subst (λ t. IsTold t bytes) (sym taken) (ap (λ r. bytes ++ r) end ∙ append-nil bytes)

-- where one byte past the limit was taken, what was given is too long
long_given : (o n : Option (List ℕ)) (bytes : List ℕ) → o ≡ prepend_known bytes n → length bytes ≡ most_input_bytes + 1 → (given : List ℕ) × IsTold o given × (most_input_bytes < length given)
long_given o None bytes taken long = (bytes, subst (λ t. IsTold t bytes) (sym taken) tt, omega (arith, long))
long_given o (Some rest) bytes taken long =
    (bytes ++ rest, subst (λ t. IsTold t (bytes ++ rest)) (sym taken) refl, omega (arith, long, length-append bytes rest))

-- the program of an input that was read whole, or how it ends a command
pub program_of_whole : {A R : Type 0} (bytes : Vec ℕ A) (seen : List ℕ) (view : R → ProgramParts) (made : Result R Status) (input : Input) → IsReadWhole most_input_bytes (Ok bytes) input → length bytes.items ≤ most_input_bytes →
    seen ≡ bytes.items → MatchResult made (λ p. program_of seen ≡ Ok (view p)) (λ s. RefusesBytes s seen ⊎ (s ≡ status.Memory)) →
    MatchResult made (λ p. IsProgramRead (view p) input) (λ s. EndsByInput s input)
program_of_whole bytes seen view (Ok p) input read few same is = record {
  bytes = bytes.items;
  told = whole_is_told input.old input.new bytes.items read.whole read.at_end;
  short = few;
  said = subst (λ b. program_of b ≡ Ok (view p)) same is;
  answered = λ h. read.answered h (λ e. cc);
}
program_of_whole bytes seen view (Err s) input read few same is =
    let answered : IsAnswered input = λ h. read.answered h (λ e. cc) in
    elim is [
      | inl w ↦ inl (record { bytes = bytes.items; told = whole_is_told input.old input.new bytes.items read.whole read.at_end; refuses = subst (RefusesBytes s) same w; answered = answered })
      | inr m ↦ inr (inl (m, answered))
    ]

-- how an input that was not read whole ends a command
pub ends_by_unread : {A : Type 0} (e : Unread) (input : Input) → IsReadWhole {A = A} most_input_bytes (Err e) input → EndsByInput (status_of_unread e) input
ends_by_unread unread.TooLong input read =
    let taken = read.too_long refl in
    let long = long_given input.old input.new taken.0 taken.1 taken.2 in
    inl (record { bytes = long.0; told = long.1; refuses = record { refusal = tt; late = λ b. b; answer = λ text. long_answer text long.0 long.2 }; answered = λ h. read.answered h (λ e. cc) })
ends_by_unread unread.Failed input read = inr (inr (refl, read.failed refl))
ends_by_unread unread.Memory input read = inr (inl (refl, λ h. read.answered h (λ e. cc)))

-- what is made of the program of an input, unless memory ran out
pub made_of_program : {T : Type 0} (P : T → ProgramParts → Type 0) (p : ProgramParts) (made : Result T Status) (input : Input) → IsProgramRead p input → MatchResult made (λ text. P text p) (λ s. s ≡ status.Memory) →
    MatchResult made (λ text. IsMadeOfInput (P text) input) (λ s. EndsByInput s input)
made_of_program P p (Ok text) input read is = record { program = p; read = read; made = is }
made_of_program P p (Err s) input read is = inr (inl (is, read.answered))

-- such a status is none that comes before the input
pub ends_late : (s : Status) (input : Input) → EndsByInput s input → ¬ IsBeforeInput s
ends_late s input (inl w) = w.refuses.late
ends_late s input (inr (inl w)) = λ b. subst IsBeforeInput w.0 b
ends_late s input (inr (inr w)) = λ b. subst IsBeforeInput w.0 b

-- nor is it success
pub ends_undone : (s : Status) (input : Input) → EndsByInput s input → s ≢ status.Ok
ends_undone s input (inl w) = λ e. subst IsRefusal e w.refuses.refusal
ends_undone s input (inr (inl w)) = λ e. absurd (let h : status.Ok ≡ status.Memory = sym e ∙ w.0 in cc)
ends_undone s input (inr (inr w)) = λ e. absurd (let h : status.Ok ≡ status.ReadFault = sym e ∙ w.0 in cc)

-- ---- commands

-- with these files, an input that is refused is answered by its status alone
pub record RefusesInputs (Answers : Given → Answer → Type 0) (files : Files) : Type 0 where
  pub is : (s : Status) (bytes : List ℕ) → RefusesBytes s bytes → Answers (record { input = bytes; files = files }) (refused_with s)
  pub only : (s : Status) (bytes : List ℕ) (b : Answer) → RefusesBytes s bytes → Answers (record { input = bytes; files = files }) b → b.status ≡ s

module _ (Answers : Given → Answer → Type 0) (files : Files) (refuses : RefusesInputs Answers files) (input : Input) (shelf : Storage) (told : IsTold shelf.files files)
    (shelf_answered : IsTrue shelf.answers_faults → shelf.faults_after ≡ shelf.faults_before) where
  -- a command with such answers ends early as the input says
  pub ends_by_refusal : (s : Status) → EndsByInput s input → EndsEarly Answers s input shelf
  ends_by_refusal s (inl w) =
      refusal_ends Answers s input shelf (record { input = w.bytes; files = files }) (w.told, told) w.refuses.refusal (refuses.is s w.bytes w.refuses) (λ b h. refuses.only s w.bytes b w.refuses h) w.answered shelf_answered
  ends_by_refusal s (inr (inl w)) =
      let bytes = some_input input.old in
      subst (λ t. EndsEarly Answers t input shelf) (sym w.0) (memory_ends Answers input shelf (record { input = bytes.0; files = files }) (bytes.1, told) w.1 shelf_answered)
  ends_by_refusal s (inr (inr w)) =
      let bytes = some_input input.old in
      subst (λ t. EndsEarly Answers t input shelf) (sym w.0) (read_fault_ends Answers input shelf (record { input = bytes.0; files = files }) (bytes.1, told) w.1 shelf_answered)

-- with these files, the answers are those to the input with this text of a program
pub record AreOfInput (Answers : Given → Answer → Type 0) (text : ProgramParts → List ℕ) (files : Files) : Type 0 where
  pub is : (bytes : List ℕ) (b : Answer) → b ≡ input_answer text bytes → Answers (record { input = bytes; files = files }) b
  pub only : (bytes : List ℕ) (b : Answer) → Answers (record { input = bytes; files = files }) b → b ≡ input_answer text bytes

module _ (Answers : Given → Answer → Type 0) (text : ProgramParts → List ℕ) (files : Files) (of_input : AreOfInput Answers text files) (input : Input) (shelf : Storage) (told : IsTold shelf.files files)
    (shelf_answered : IsTrue shelf.answers_faults → shelf.faults_after ≡ shelf.faults_before) where
  -- a command with such answers ends early as the input says
  pub ends_by_input : (s : Status) → EndsByInput s input → EndsEarly Answers s input shelf
  ends_by_input =
      ends_by_refusal Answers files
      (record {
        is = λ s bytes refuses. of_input.is bytes (refused_with s) (sym (refuses.answer text));
        only = λ s bytes b refuses h. ap (λ (a : Answer). a.status) (of_input.only bytes b h ∙ refuses.answer text);
      })
      input shelf told shelf_answered

  -- or it has the text of the program that was read
  pub written_by_input : (p : ProgramParts) (made : List ℕ) → IsProgramRead p input → made ≡ text p → IsToBeWritten Answers made input shelf
  written_by_input p made read is =
      let answer : input_answer text read.bytes ≡ done made = short_answer text read.bytes read.short ∙ ap (program_answer text) read.said ∙ ap done (sym is) in
      record {
        given = record { input = read.bytes; files = files };
        told = (read.told, told);
        err = [];
        is_answer = of_input.is read.bytes (done made) (sym answer);
        well = λ b h. ap (λ (a : Answer). a.status) (of_input.only read.bytes b h ∙ answer);
        answered = read.answered;
        shelf_answered = shelf_answered;
      }
