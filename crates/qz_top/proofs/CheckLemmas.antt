-- What is made of two programs that are compared.
use Rattle.std.proofs.Common.{◌≡◌, ℕ, ◌+◌, ◌<◌, ◌≤◌, ◌==◌, nat_lt, Bool, true, false, if◌then◌else◌, List, [], length, Option, Some, None, Result, Ok, Err, IsTrue, refl, subst, sym, ap, ◌∙◌, inl, inr, arith}
use Rattle.std.specs.Prelude.{◌↔◌, ◌⊎◌, MatchResult, IfErr}
use Rattle.std.specs.List.{AllByRecursion}
use Rattle.std.specs.Option.{option_map}
use Rattle.std.proofs.lemmas.Bool.{cases_lt}
use Rattle.qz_circ.specs.declared.fault.QasmFault.{QasmFault}
use Rattle.qz_circ.specs.declared.fault.Which.TheVariants.{InputBytes, CheckQubits, CheckHalves, CheckGates}
use Rattle.qz_circ.specs.Grammar.{program_of}
use Rattle.qz_circ.specs.ProgramCircuits.{ProgramCircuit, IsProgramGate, program_halves, EquivalentProgramCircuits}
use Rattle.qz_circ.specs.Programs.{ProgramParts}
use Rattle.qz_circ.specs.Registers.{total_size}
use Rattle.qz_circ.specs.ValidPrograms.{Valid}
use Rattle.qz_io.specs.Transfers.{Input}
use Rattle.qz_top.specs.declared.status.Status.{Status}
use Rattle.qz_top.specs.declared.status.Status.TheVariants as status
use Rattle.qz_top.specs.Answer.{Answer, Given, Storage, refused_with, done}
use Rattle.qz_top.specs.Check.{program_file, of_file, check_refusal, verdict_text, IsVerdict, PairAnswer, ProgramAnswer, ComparedAnswer, OtherAnswer, OtherBytesAnswer, Checks, RefusesFileBytes, IsFileProgram, IsChecked, IsCheckedBy, EndsByPrograms}
use Rattle.qz_top.specs.Files.{IsFileRead}
use Rattle.qz_top.specs.Inputs.{most_input_bytes, status_of_fault, program_answer, input_answer}
use Rattle.qz_top.specs.Making.{IsToBeWritten, EndsEarly, EndsUnread, IsProgramRead, IsMadeOfInput, RefusesBytes, EndsByInput}
use Rattle.qz_top.specs.Status.{IsRefusal, IsBeforeInput}
use Rattle.qz_top.proofs.AnswerLemmas.{refusal_ends}
use Rattle.qz_top.proofs.FileLemmas.{answers_to_bytes, only_to_bytes, unread_memory, ends_by_bytes}
use Rattle.qz_top.proofs.InputLemmas.{short_answer, long_answer, ends_late, ends_by_refusal}

-- ---- bytes that are refused

-- the status of an answer
abbrev status_of : Answer → Status
status_of a = a.status

-- a refusal is not success
not_done : (s : Status) → IsRefusal s → status.Ok ≡ s → ⊥
not_done s refusal e = subst IsRefusal (sym e) refusal

-- where what is said is refused, it is a fault with this status
said_fault : (s : Status) (said : Result ProgramParts QasmFault) → IsRefusal s → program_answer (λ p. []) said ≡ refused_with s → (e : QasmFault) × (said ≡ Err e) × (s ≡ status_of_fault e)
said_fault s (Ok p) refusal is = absurd (not_done s refusal (ap status_of is))
said_fault s (Err e) refusal is = (e, refl, sym (ap status_of is))

-- so it is with bytes within the limit
fault_of : (s : Status) (bytes : List ℕ) → length bytes ≤ most_input_bytes → RefusesBytes s bytes → (e : QasmFault) × (program_of bytes ≡ Err e) × (s ≡ status_of_fault e)
fault_of s bytes few refuses = said_fault s (program_of bytes) refuses.refusal (sym (short_answer (λ p. []) bytes few) ∙ refuses.answer (λ p. []))

-- longer ones pass the limit of an input
limit_of_long : (s : Status) (bytes : List ℕ) → most_input_bytes < length bytes → RefusesBytes s bytes → s ≡ status.Limit InputBytes
limit_of_long s bytes many refuses = sym (ap status_of (sym (long_answer (λ p. []) bytes many) ∙ refuses.answer (λ p. [])))

-- ---- the file

-- a refusal stays one where it is of the file
of_file_refuses : (s : Status) → IsRefusal s → IsRefusal (of_file s)
of_file_refuses status.Ok r = r
of_file_refuses status.Memory r = r
of_file_refuses status.Usage r = r
of_file_refuses (status.Limit which) r = r
of_file_refuses (status.Qasm fault) r = tt
of_file_refuses (status.RuleSyntax place) r = r
of_file_refuses (status.Unsound class member) r = r
of_file_refuses status.NoFile r = r
of_file_refuses status.ReadFault r = r
of_file_refuses status.WriteFault r = r
of_file_refuses status.ShelfFault r = r
of_file_refuses (status.Shapes input file) r = r
of_file_refuses (status.FileQasm fault) r = r

-- the bytes of the file are refused as those of an input are
pub file_bytes_refused : (s : Status) (bytes : List ℕ) → length bytes ≤ most_input_bytes → RefusesBytes s bytes ⊎ (s ≡ status.Memory) → RefusesFileBytes (of_file s) bytes ⊎ (of_file s ≡ status.Memory)
file_bytes_refused s bytes few (inl refuses) =
    let fault = fault_of s bytes few refuses in
    inl (record { refusal = of_file_refuses s refuses.refusal; fault = fault.0; said = fault.1; status_is = ap of_file fault.2 })
file_bytes_refused s bytes few (inr m) = inr (ap of_file m)

-- what is made of the bytes of the file
abbrev pub IsProgramOf : {R : Type 0} → List ℕ → (R → ProgramParts) → Result R Status → Type 0
IsProgramOf bytes view made = MatchResult made (λ p. program_of bytes ≡ Ok (view p)) (λ s. RefusesFileBytes s bytes ⊎ (s ≡ status.Memory))

file_program : {R : Type 0} (name bytes : List ℕ) (shelf : Storage) (view : R → ProgramParts) (made : Result R Status) → IsFileRead program_file name bytes shelf → IsProgramOf bytes view made →
    MatchResult made (λ p. IsFileProgram name (view p) shelf) (λ s. EndsUnread (Checks name) s shelf)
file_program name bytes shelf view (Ok p) read is = record { bytes = bytes; read = read; said = is }
file_program name bytes shelf view (Err s) read (inl w) =
    ends_by_bytes program_file name OtherBytesAnswer s bytes shelf read w.refusal
    (λ given. subst (λ r. OtherAnswer given r (refused_with s)) (sym w.said) (ap refused_with w.status_is))
    (λ given b h. let is : b ≡ refused_with (of_file (status_of_fault w.fault)) = subst (λ r. OtherAnswer given r b) w.said h in ap status_of is ∙ sym w.status_is)
file_program name bytes shelf view (Err s) read (inr m) = subst (λ t. EndsUnread (Checks name) t shelf) (sym m) (unread_memory program_file name OtherBytesAnswer shelf read.answered)

-- so it is with the bytes as they are handed on
pub file_program_made : {R : Type 0} (name bytes seen : List ℕ) (shelf : Storage) (view : R → ProgramParts) (made : Result R Status) → seen ≡ bytes → IsFileRead program_file name bytes shelf → IsProgramOf seen view made →
    MatchResult made (λ p. IsFileProgram name (view p) shelf) (λ s. EndsUnread (Checks name) s shelf)
file_program_made name bytes seen shelf view made same read is = file_program name bytes shelf view made read (subst (λ b. IsProgramOf b view made) same is)

-- ---- two programs

-- what is told of programs goes by the test
pub verdict_is : (E : Type 0) (same : Bool) (text : List ℕ) → text ≡ verdict_text same → (IsTrue same ↔ E) → (E × (text ≡ verdict_text true)) ⊎ ((E → ⊥) × (text ≡ verdict_text false))
verdict_is E true text is test = inl (test.0 refl, is)
verdict_is E false text is test = inr (λ e. let h : IsTrue false = test.1 e in cc, is)

-- so it is where the circuits are those of the programs
pub verdict_of : (p file : ProgramParts) (q : ℕ) (a c : ProgramCircuit) (same : Bool) (text : List ℕ) → q ≡ total_size p.qregs → a ≡ p.gates → c ≡ file.gates → text ≡ verdict_text same → (IsTrue same ↔ EquivalentProgramCircuits q a c) → IsVerdict p file text
verdict_of p file q a c same text on first second is test =
    verdict_is (EquivalentProgramCircuits (total_size p.qregs) p.gates file.gates) same text is
    (subst (λ n. IsTrue same ↔ EquivalentProgramCircuits n p.gates file.gates) on
    (subst (λ x. IsTrue same ↔ EquivalentProgramCircuits q x file.gates) first (subst (λ x. IsTrue same ↔ EquivalentProgramCircuits q a x) second test)))

-- the gates of a valid program are on its qubits
pub gates_on : (p : ProgramParts) (q : ℕ) (gates : ProgramCircuit) → Valid p → q ≡ total_size p.qregs → gates ≡ p.gates → AllByRecursion (IsProgramGate q) gates
gates_on p q gates valid on same =
    subst (λ (gs : ProgramCircuit). AllByRecursion (IsProgramGate q) gs) (sym same) (subst (λ n. AllByRecursion (IsProgramGate n) p.gates) (sym on) valid.gates.gates)

-- a pair is refused after the input was read
refused_late : (same x y z : Bool) (m n : ℕ) (s : Status) →
    (if same then option_map status.Limit (if x then Some CheckQubits else if y then Some CheckHalves else if z then Some CheckGates else None) else Some (status.Shapes m n)) ≡ Some s → IsRefusal s × (¬ IsBeforeInput s)
refused_late false x y z m n s is = let e : status.Shapes m n ≡ s = cc in subst (λ t. IsRefusal t × (¬ IsBeforeInput t)) e (tt, λ b. b)
refused_late true true y z m n s is = let e : status.Limit CheckQubits ≡ s = cc in subst (λ t. IsRefusal t × (¬ IsBeforeInput t)) e (tt, λ b. b)
refused_late true false true z m n s is = let e : status.Limit CheckHalves ≡ s = cc in subst (λ t. IsRefusal t × (¬ IsBeforeInput t)) e (tt, λ b. b)
refused_late true false false true m n s is = let e : status.Limit CheckGates ≡ s = cc in subst (λ t. IsRefusal t × (¬ IsBeforeInput t)) e (tt, λ b. b)
refused_late true false false false m n s is = cc

pair_refused : (p file : ProgramParts) (s : Status) → check_refusal p file ≡ Some s → IsRefusal s × (¬ IsBeforeInput s)
pair_refused p file s is =
    refused_late (total_size p.qregs == total_size file.qregs) (nat_lt 6 (total_size p.qregs)) (nat_lt 120 (program_halves p.gates + program_halves file.gates)) (nat_lt 4000 (length p.gates + length file.gates))
    (total_size p.qregs) (total_size file.qregs) s is

-- ---- the input

-- bytes that are refused are so whatever the file's program is
refused_is_by : (file : ProgramParts) (s : Status) (bytes : List ℕ) → RefusesBytes s bytes → (most_input_bytes < length bytes) ⊎ (length bytes ≤ most_input_bytes) → ComparedAnswer file bytes (refused_with s)
refused_is_by file s bytes refuses (inl many) = inl (many, ap refused_with (limit_of_long s bytes many refuses))
refused_is_by file s bytes refuses (inr few) =
    let fault = fault_of s bytes few refuses in
    inr (few, subst (λ r. ProgramAnswer file r (refused_with s)) (sym fault.1) (ap refused_with fault.2))

refused_is : (file : ProgramParts) (s : Status) (bytes : List ℕ) → RefusesBytes s bytes → ComparedAnswer file bytes (refused_with s)
refused_is file s bytes refuses = refused_is_by file s bytes refuses (cases_lt most_input_bytes (length bytes))

-- and there is no other answer
refused_only : (file : ProgramParts) (s : Status) (bytes : List ℕ) (b : Answer) → RefusesBytes s bytes → ComparedAnswer file bytes b → b.status ≡ s
refused_only file s bytes b refuses (inl w) = ap status_of w.1 ∙ sym (limit_of_long s bytes w.0 refuses)
refused_only file s bytes b refuses (inr w) =
    let fault = fault_of s bytes w.0 refuses in
    let is : b ≡ refused_with (status_of_fault fault.0) = subst (λ r. ProgramAnswer file r b) fault.1 w.1 in
    ap status_of is ∙ sym fault.2

-- an answer to the bytes of a program is one to the two programs
program_only : (file p : ProgramParts) (bytes : List ℕ) (b : Answer) → length bytes ≤ most_input_bytes → program_of bytes ≡ Ok p → ComparedAnswer file bytes b → PairAnswer p file (check_refusal p file) b
program_only file p bytes b few said (inl w) = absurd (omega (arith, few, w.0))
program_only file p bytes b few said (inr w) = subst (λ r. ProgramAnswer file r b) said w.1

program_is : (file p : ProgramParts) (bytes : List ℕ) (b : Answer) → length bytes ≤ most_input_bytes → program_of bytes ≡ Ok p → PairAnswer p file (check_refusal p file) b → ComparedAnswer file bytes b
program_is file p bytes b few said is = inr (few, subst (λ r. ProgramAnswer file r b) (sym said) is)

-- what is made of the input's program
pub checked_of_program : {T : Type 0} (items : T → List ℕ) (file p : ProgramParts) (made : Result T Status) (input : Input) → IsProgramRead p input →
    MatchResult made (λ text. IsChecked p file (items text)) (λ s. (check_refusal p file ≡ Some s) ⊎ (s ≡ status.Memory)) →
    MatchResult made (λ text. IsMadeOfInput (λ q. IsChecked q file (items text)) input) (λ s. EndsByPrograms file s input)
checked_of_program items file p (Ok text) input read is = record { program = p; read = read; made = is }
checked_of_program items file p (Err s) input read (inl refused) = inr (record { program = p; read = read; made = refused })
checked_of_program items file p (Err s) input read (inr m) = inl (inr (inl (m, read.answered)))

-- ---- the command

module _ (name : List ℕ) (file : ProgramParts) (shelf : Storage) (other : IsFileProgram name file shelf) where
  -- what may have been given, with this input
  abbrev given_with : List ℕ → Given
  given_with bytes = record { input = bytes; files = other.read.files }

  -- the answers are those to the input
  answer_is : (bytes : List ℕ) (b : Answer) → ComparedAnswer file bytes b → Checks name (given_with bytes) b
  answer_is bytes b is =
      answers_to_bytes program_file name OtherBytesAnswer other.bytes (given_with bytes) b other.read.named other.read.short (subst (λ r. OtherAnswer (given_with bytes) r b) (sym other.said) is)

  answer_only : (bytes : List ℕ) (b : Answer) → Checks name (given_with bytes) b → ComparedAnswer file bytes b
  answer_only bytes b is =
      subst (λ r. OtherAnswer (given_with bytes) r b) other.said (only_to_bytes program_file name OtherBytesAnswer other.bytes (given_with bytes) b other.read.named other.read.short is)

  -- the command ends early as the input says
  ends_for_input : (s : Status) (input : Input) → EndsByInput s input → EndsEarly (Checks name) s input shelf
  ends_for_input s input ends =
      ends_by_refusal (Checks name) other.read.files
      (record { is = λ t bytes refuses. answer_is bytes (refused_with t) (refused_is file t bytes refuses); only = λ t bytes b refuses h. refused_only file t bytes b refuses (answer_only bytes b h) })
      input shelf other.read.told other.read.answered s ends

  -- or since the programs aren't compared
  ends_for_pair : (s : Status) (input : Input) → IsMadeOfInput (λ p. check_refusal p file ≡ Some s) input → EndsEarly (Checks name) s input shelf
  ends_for_pair s input pair =
      let p = pair.program in
      let bytes = pair.read.bytes in
      refusal_ends (Checks name) s input shelf (given_with bytes) (pair.read.told, other.read.told) (pair_refused p file s pair.made).0
      (answer_is bytes (refused_with s) (program_is file p bytes (refused_with s) pair.read.short pair.read.said (subst (λ r. PairAnswer p file r (refused_with s)) (sym pair.made) refl)))
      (λ b h. ap status_of (subst (λ r. PairAnswer p file r b) pair.made (program_only file p bytes b pair.read.short pair.read.said (answer_only bytes b h))))
      pair.read.answered other.read.answered

  ends_for_programs : (s : Status) (input : Input) → EndsByPrograms file s input → EndsEarly (Checks name) s input shelf
  ends_for_programs s input (inl ends) = ends_for_input s input ends
  ends_for_programs s input (inr pair) = ends_for_pair s input pair

  -- what is made of the input, given the file's program
  pub checked_by_file : {T : Type 0} (items : T → List ℕ) (made : Result T Status) (input : Input) →
      MatchResult made (λ text. IsMadeOfInput (λ p. IsChecked p file (items text)) input) (λ s. EndsByPrograms file s input) →
      MatchResult made (λ text. IsCheckedBy name (items text) input shelf) (λ s. EndsEarly (Checks name) s input shelf)
  checked_by_file items (Ok text) input is = record { file = file; file_read = other; checked = is }
  checked_by_file items (Err s) input is = ends_for_programs s input is

-- what is told of two programs is to be written
pub checked_written : (name text : List ℕ) (input : Input) (shelf : Storage) → IsCheckedBy name text input shelf → IsToBeWritten (Checks name) text input shelf
checked_written name text input shelf by =
    let other = by.file_read in
    let p = by.checked.program in
    let read = by.checked.read in
    let made = by.checked.made in
    record {
      given = given_with name by.file shelf other read.bytes;
      told = (read.told, other.read.told);
      err = [];
      is_answer = answer_is name by.file shelf other read.bytes (done text) (program_is by.file p read.bytes (done text) read.short read.said (subst (λ r. PairAnswer p by.file r (done text)) (sym made.passed) (text, made.verdict, refl)));
      well = λ b h.
          let pair : PairAnswer p by.file None b = subst (λ r. PairAnswer p by.file r b) made.passed (program_only by.file p read.bytes b read.short read.said (answer_only name by.file shelf other read.bytes b h)) in
          ap status_of pair.2;
      answered = read.answered;
      shelf_answered = other.read.answered;
    }

-- a status that the input or the pair decides is none that comes before the input, so nothing is to be said of the input there
late_for_programs : (file : ProgramParts) (s : Status) (input : Input) → EndsByPrograms file s input → ¬ IsBeforeInput s
late_for_programs file s input (inl ends) = ends_late s input ends
late_for_programs file s input (inr pair) = (pair_refused pair.program file s pair.made).1

pub late_by_programs : {T : Type 0} (P : T → Type 0) (Q : Type 0) (file : ProgramParts) (made : Result T Status) (input : Input) → MatchResult made P (λ s. EndsByPrograms file s input) → IfErr made (λ s. IsBeforeInput s → Q)
late_by_programs P Q file (Ok text) input is = tt
late_by_programs P Q file (Err s) input is = λ b. absurd (late_for_programs file s input is b)
