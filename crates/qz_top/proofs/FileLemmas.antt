-- What is made of the file that a command opens.
use Rattle.std.proofs.Common.{◌≡◌, ◌≢◌, ℕ, ◌+◌, ◌<◌, ◌≤◌, List, [], ◌++◌, length, Vec, Option, Some, None, Result, Ok, Err, true, false, refl, subst, sym, ap, ◌∙◌, inl, inr, append-nil, length-append, arith}
use Rattle.std.specs.Prelude.{◌⊎◌, IsTrue, MatchResult, is_some}
use Rattle.std.specs.Io.KnownBytes.{prepend_known, IsAtEnd}
use Rattle.qz_io.specs.declared.fault.IoFault.{IoFault}
use Rattle.qz_io.specs.declared.fault.IoFault.TheVariants as opening
use Rattle.qz_io.specs.declared.transfers.Unread.{Unread}
use Rattle.qz_io.specs.declared.transfers.Unread.TheVariants as unread
use Rattle.qz_io.specs.Counts.{Rose}
use Rattle.qz_io.specs.Files.{Files, TellsWhether, IsWholeFile}
use Rattle.qz_io.specs.Told.{TakesBytes}
use Rattle.qz_io.specs.Transfers.{Input, IsReadWhole}
use Rattle.qz_top.specs.declared.files.FileLimit.{FileLimit}
use Rattle.qz_top.specs.declared.status.Status.{Status}
use Rattle.qz_top.specs.declared.status.Status.TheVariants as status
use Rattle.qz_top.specs.Status.{IsRefusal}
use Rattle.qz_top.specs.Answer.{Answer, Given, Storage, IsTold, refused_with}
use Rattle.qz_top.specs.Files.{status_of_unread_file, status_of_opening, FileAnswer, NamedAnswer, IsOpened, IsShelfAnswered, IsFileRead, RefusesFile, EndsByFile, TellsFile, IsFileTaken, TakesFile, TakesFileFor}
use Rattle.qz_top.specs.Making.{EndsUnread}
use Rattle.qz_top.proofs.AnswerLemmas.{some_input, some_given, memory_ends, refusal_ends, shelf_fault_ends}

-- ---- files that may have been given

-- where nothing is told of a file, there is none
none_where : (file : Option (List ℕ)) → false ≡ is_some file → file ≡ None
none_where None e = refl
none_where (Some bytes) e = cc

-- where there is one, it isn't none
some_where : (file : Option (List ℕ)) → true ≡ is_some file → file ≡ None → ⊥
some_where None e h = cc
some_where (Some bytes) e h = cc

-- a shelf with no file of this name
no_file : (told : Option Files) (name : List ℕ) → TellsWhether told name false → (files : Files) × IsTold told files × (files name ≡ None)
no_file None name missing = (λ n. None, tt, refl)
no_file (Some files) name missing = (files, refl, none_where (files name) missing)

-- a shelf whose file of this name was read from its beginning, to some rest
file_given : (told : Option Files) (name : List ℕ) (old new : Option (List ℕ)) (bytes : List ℕ) → TellsWhether told name true → IsWholeFile told name old → old ≡ prepend_known bytes new →
    (files : Files) × IsTold told files × (rest : List ℕ) × (files name ≡ Some (bytes ++ rest)) × (IsAtEnd new → rest ≡ [])
file_given None name old new bytes found whole taken = (λ n. Some (bytes ++ []), tt, [], refl, λ end. refl)
file_given (Some files) name old None bytes found whole taken = absurd (some_where (files name) found (sym whole ∙ taken))
file_given (Some files) name old (Some rest) bytes found whole taken = (files, refl, rest, sym whole ∙ taken, λ end. end)

-- ---- how a file is read

-- where neither the opening nor the reading passed over a fault, none was passed over
calm_in_all : {name : List ℕ} {rest : Option (List ℕ)} (opened : Storage) (input : Input) → IsOpened name rest opened → opened.faults_after ≡ input.faults_before → opened.answers_faults ≡ input.answers_faults →
    (IsTrue input.answers_faults → input.faults_after ≡ input.faults_before) → IsTrue input.answers_faults → input.faults_after ≡ opened.faults_before
calm_in_all opened input open_is joins same calm answers = calm answers ∙ sym joins ∙ open_is.answered (subst IsTrue (sym same) answers)

-- what a call shows of the shelf, of which a file was opened and then read
abbrev pub read_after : Storage → Input → Storage
read_after opened input = record { files = opened.files; faults_before = opened.faults_before; faults_after = input.faults_after; answers_faults = input.answers_faults }

-- a count that rose after it had not fallen rose in all
rose_later : (before mid after : ℕ) → before ≤ mid → Rose mid after → Rose before after
rose_later before mid after kept (inl more) = inl (omega arith)
rose_later before mid after kept (inr last) = inr last

module _ (limit : FileLimit) (name : List ℕ) where
  -- a file that was read whole
  pub file_made : {A : Type 0} (bytes : Vec ℕ A) (opened : Storage) (input : Input) → IsOpened name input.old opened → opened.faults_after ≡ input.faults_before → opened.answers_faults ≡ input.answers_faults →
      IsReadWhole limit.most (Ok bytes) input → IsFileRead limit name bytes.items (read_after opened input)
  file_made bytes opened input open_is joins same read =
      let given = file_given opened.files name input.old input.new bytes.items open_is.found open_is.whole read.whole in
      record {
        files = given.0;
        told = given.1;
        named = given.3 ∙ ap (λ (rest : List ℕ). Some (bytes.items ++ rest)) (given.4 read.at_end) ∙ ap Some (append-nil bytes.items);
        short = omega (arith, bytes.ok.0, read.within);
        answered = calm_in_all opened input open_is joins same (λ h. read.answered h (λ e. cc));
      }

  -- a file that was not
  pub file_unread : {A : Type 0} (e : Unread) (opened : Storage) (input : Input) → IsOpened name input.old opened → opened.faults_after ≡ input.faults_before → opened.answers_faults ≡ input.answers_faults →
      IsReadWhole {A = A} limit.most (Err e) input → EndsByFile limit name (status_of_unread_file limit e) (read_after opened input)
  file_unread unread.TooLong opened input open_is joins same read =
      let taken = read.too_long refl in
      let given = file_given opened.files name input.old input.new taken.0 open_is.found open_is.whole taken.1 in
      let long : limit.most < length (taken.0 ++ given.2) = omega (arith, taken.2, length-append taken.0 given.2) in
      inl (record {
        files = given.0;
        told = given.1;
        refuses = subst (RefusesFile limit (status.Limit limit.which)) (sym given.3) (long, refl);
        answered = calm_in_all opened input open_is joins same (λ h. read.answered h (λ e. cc));
      })
  file_unread unread.Failed opened input open_is joins same read =
      inr (inr (refl, rose_later opened.faults_before opened.faults_after input.faults_after open_is.faults (subst (λ n. Rose n input.faults_after) (sym joins) (read.failed refl))))
  file_unread unread.Memory opened input open_is joins same read = inr (inl (refl, calm_in_all opened input open_is joins same (λ h. read.answered h (λ e. cc))))

  -- a file that isn't there
  pub file_missing : (shelf : Storage) → TellsWhether shelf.files name false → IsShelfAnswered shelf → EndsByFile limit name status.NoFile shelf
  file_missing shelf missing answered =
      let given = no_file shelf.files name missing in
      inl (record { files = given.0; told = given.1; refuses = subst (RefusesFile limit status.NoFile) (sym given.2) refl; answered = answered })

  -- a file that isn't opened
  pub file_unopened : (e : IoFault) (shelf : Storage) → (e ≡ opening.Failed → Rose shelf.faults_before shelf.faults_after) →
      (IsTrue shelf.answers_faults → (e ≡ opening.Failed → ⊥) → shelf.faults_after ≡ shelf.faults_before) → EndsByFile limit name (status_of_opening e) shelf
  file_unopened opening.Failed shelf failed answered = inr (inr (refl, failed refl))
  file_unopened opening.Memory shelf failed answered = inr (inl (refl, λ h. answered h (λ e. cc)))

-- ---- how a file ends a command

-- a file is refused by a refusal
file_refusal : (limit : FileLimit) (s : Status) (file : Option (List ℕ)) → RefusesFile limit s file → IsRefusal s
file_refusal limit s None refuses = subst IsRefusal (sym refuses) tt
file_refusal limit s (Some bytes) refuses = subst IsRefusal (sym refuses.1) tt

-- and this is an answer to it
refused_is : (limit : FileLimit) (BytesAnswer : List ℕ → Answer → Type 0) (s : Status) (file : Option (List ℕ)) → RefusesFile limit s file → FileAnswer limit BytesAnswer file (refused_with s)
refused_is limit BytesAnswer s None refuses = ap refused_with refuses
refused_is limit BytesAnswer s (Some bytes) refuses = inl (refuses.0, ap refused_with refuses.1)

-- and there is no other
refused_only : (limit : FileLimit) (BytesAnswer : List ℕ → Answer → Type 0) (s : Status) (file : Option (List ℕ)) (b : Answer) → RefusesFile limit s file → FileAnswer limit BytesAnswer file b → b.status ≡ s
refused_only limit BytesAnswer s None b refuses is = ap (λ (a : Answer). a.status) is ∙ sym refuses
refused_only limit BytesAnswer s (Some bytes) b refuses (inl w) = ap (λ (a : Answer). a.status) w.1 ∙ sym refuses.1
refused_only limit BytesAnswer s (Some bytes) b refuses (inr w) = absurd (omega (arith, refuses.0, w.0))

module _ (limit : FileLimit) (name : List ℕ) (BytesAnswer : Given → List ℕ → Answer → Type 0) where
  -- the answers where the file is this one are those to it
  pub answers_to : (file : Option (List ℕ)) (given : Given) (answer : Answer) → given.files name ≡ file → FileAnswer limit (BytesAnswer given) file answer → NamedAnswer limit name BytesAnswer given answer
  answers_to file given answer e = subst (λ f. FileAnswer limit (BytesAnswer given) f answer) (sym e)

  -- and no others
  pub only_to : (file : Option (List ℕ)) (given : Given) (answer : Answer) → given.files name ≡ file → NamedAnswer limit name BytesAnswer given answer → FileAnswer limit (BytesAnswer given) file answer
  only_to file given answer e = subst (λ f. FileAnswer limit (BytesAnswer given) f answer) e

  -- the answers where the file was read are those to its bytes
  pub answers_to_bytes : (bytes : List ℕ) (given : Given) (answer : Answer) → given.files name ≡ Some bytes → length bytes ≤ limit.most → BytesAnswer given bytes answer → NamedAnswer limit name BytesAnswer given answer
  answers_to_bytes bytes given answer e short is = answers_to (Some bytes) given answer e (inr (short, is))

  short_only : (bytes : List ℕ) (given : Given) (answer : Answer) → length bytes ≤ limit.most → FileAnswer limit (BytesAnswer given) (Some bytes) answer → BytesAnswer given bytes answer
  short_only bytes given answer short (inl w) = absurd (omega (arith, short, w.0))
  short_only bytes given answer short (inr w) = w.1

  pub only_to_bytes : (bytes : List ℕ) (given : Given) (answer : Answer) → given.files name ≡ Some bytes → length bytes ≤ limit.most → NamedAnswer limit name BytesAnswer given answer → BytesAnswer given bytes answer
  only_to_bytes bytes given answer e short is = short_only bytes given answer short (only_to (Some bytes) given answer e is)

  -- a command ends early for want of memory, whatever is given
  pub unread_memory : (shelf : Storage) → IsShelfAnswered shelf → EndsUnread (NamedAnswer limit name BytesAnswer) status.Memory shelf
  unread_memory shelf answered = λ input calm.
      let given = some_given input shelf in
      memory_ends (NamedAnswer limit name BytesAnswer) input shelf given.0 given.1 (λ _. calm) answered

  -- or by a fault of the shelf
  unread_fault : (shelf : Storage) → Rose shelf.faults_before shelf.faults_after → EndsUnread (NamedAnswer limit name BytesAnswer) status.ShelfFault shelf
  unread_fault shelf rose = λ input calm.
      let given = some_given input shelf in
      shelf_fault_ends (NamedAnswer limit name BytesAnswer) input shelf given.0 given.1 (λ _. calm) rose

  -- or by a refusal that is the only answer where the files are these
  unread_refusal : (s : Status) (files : Files) (shelf : Storage) → IsTold shelf.files files → IsShelfAnswered shelf → IsRefusal s →
      ((input : List ℕ) → NamedAnswer limit name BytesAnswer (record { input = input; files = files }) (refused_with s)) →
      ((input : List ℕ) (b : Answer) → NamedAnswer limit name BytesAnswer (record { input = input; files = files }) b → b.status ≡ s) → EndsUnread (NamedAnswer limit name BytesAnswer) s shelf
  unread_refusal s files shelf told answered refusal is only = λ input calm.
      let bytes = some_input input.old in
      refusal_ends (NamedAnswer limit name BytesAnswer) s input shelf (record { input = bytes.0; files = files }) (bytes.1, told) refusal (is bytes.0) (only bytes.0) (λ _. calm) answered

  -- or for its file
  pub ends_by_file : (s : Status) (shelf : Storage) → EndsByFile limit name s shelf → EndsUnread (NamedAnswer limit name BytesAnswer) s shelf
  ends_by_file s shelf (inl w) =
      unread_refusal s w.files shelf w.told w.answered (file_refusal limit s (w.files name) w.refuses)
      (λ input. refused_is limit (BytesAnswer (record { input = input; files = w.files })) s (w.files name) w.refuses)
      (λ input b. refused_only limit (BytesAnswer (record { input = input; files = w.files })) s (w.files name) b w.refuses)
  ends_by_file s shelf (inr (inl w)) = subst (λ t. EndsUnread (NamedAnswer limit name BytesAnswer) t shelf) (sym w.0) (unread_memory shelf w.1)
  ends_by_file s shelf (inr (inr w)) = subst (λ t. EndsUnread (NamedAnswer limit name BytesAnswer) t shelf) (sym w.0) (unread_fault shelf w.1)

  -- or for what its file says
  pub ends_by_bytes : (s : Status) (bytes : List ℕ) (shelf : Storage) → IsFileRead limit name bytes shelf → IsRefusal s →
      ((given : Given) → BytesAnswer given bytes (refused_with s)) → ((given : Given) (b : Answer) → BytesAnswer given bytes b → b.status ≡ s) → EndsUnread (NamedAnswer limit name BytesAnswer) s shelf
  ends_by_bytes s bytes shelf read refusal is only =
      unread_refusal s read.files shelf read.told read.answered refusal
      (λ input. let given : Given = record { input = input; files = read.files } in answers_to_bytes bytes given (refused_with s) read.named read.short (is given))
      (λ input b h. let given : Given = record { input = input; files = read.files } in only given b (only_to_bytes bytes given b read.named read.short h))

-- ---- how much of a file is taken

-- what was told when it was opened is the whole file
opened_whole : (told : Option Files) (name file : List ℕ) (rest : Option (List ℕ)) → TellsFile told name file → IsWholeFile told name rest → rest ≡ Some file
opened_whole None name file rest tells whole = absurd tells
opened_whole (Some files) name file rest tells whole = whole ∙ tells

module _ (limit : FileLimit) (file : List ℕ) (before after : Option (List ℕ)) where
  -- a file from which no byte past the limit was taken is taken so at each status, also where that comes later
  pub taken_late : (s : Status) → TakesBytes (Some file) after (λ n. n ≤ limit.most) → TakesFile limit file before after s
  taken_late s takes = inl (record { taken = (takes.0, takes.1, omega (arith, takes.2)); within = λ _. takes })

  pub taken_for : {R : Type 0} (made : Result R Status) → TakesBytes (Some file) after (λ n. n ≤ limit.most) → TakesFileFor limit file before after made
  taken_for (Ok r) takes = takes
  taken_for (Err s) takes = taken_late s takes

  -- the open file is taken so, whether or not it is read whole
  taken_whole : {R : Type 0} (made : Result R Status) → TakesBytes (Some file) after (λ n. n ≤ limit.most + 1) →
      (made ≢ Err (status.Limit limit.which) → TakesBytes (Some file) after (λ n. n ≤ limit.most)) → TakesFileFor limit file before after made
  taken_whole (Ok r) taken within = within (λ e. cc)
  taken_whole (Err s) taken within = inl (record { taken = taken; within = λ other. within (λ e. other cc) })

  pub taken_open : {R : Type 0} (told : Option Files) (name : List ℕ) (opened : Option (List ℕ)) (made : Result R Status) → TellsFile told name file → IsWholeFile told name opened →
      TakesBytes opened after (λ n. n ≤ limit.most + 1) → (made ≢ Err (status.Limit limit.which) → TakesBytes opened after (λ n. n ≤ limit.most)) → TakesFileFor limit file before after made
  taken_open told name opened made tells whole taken within =
      let is : opened ≡ Some file = opened_whole told name file opened tells whole in
      taken_whole made (subst (λ o. TakesBytes o after (λ n. n ≤ limit.most + 1)) is taken) (λ other. subst (λ o. TakesBytes o after (λ n. n ≤ limit.most)) is (within other))

  -- a file that isn't opened
  pub taken_unopened : (e : IoFault) → after ≡ before → TakesFile limit file before after (status_of_opening e)
  taken_unopened opening.Failed kept = inr (inl refl, kept)
  taken_unopened opening.Memory kept = inr (inr refl, kept)

-- a file that is told isn't missing
pub told_is_found : (told : Option Files) (name file : List ℕ) → TellsFile told name file → TellsWhether told name false → ⊥
told_is_found None name file tells missing = tells
told_is_found (Some files) name file tells missing = let h : None ≡ Some file = sym (none_where (files name) missing) ∙ tells in cc
