-- What was read of an input after several calls.
use Rattle.std.proofs.Common.{◌≡◌, ℕ, ◌+◌, ◌≤◌, Bool, IsTrue, List, ◌++◌, length, take, Option, Ok, Err, ap, ◌∙◌, arith}
use Rattle.std.specs.Prelude.{◌≢◌}
use Rattle.std.specs.Io.KnownBytes.{prepend_known}
use Rattle.qz_io.specs.declared.transfers.Unread.{Unread}
use Rattle.qz_io.specs.declared.transfers.Unread.TheVariants as unread
use Rattle.qz_io.specs.Transfers.{Input, IsRead, IsReadWhole}
use Rattle.qz_io.proofs.ToldLemmas.{prepend_known-prepend_known}

-- these bytes were taken of an input, which passed over no fault
pub record IsReadSoFar (limit : ℕ) (bytes : List ℕ) (input : Input) : Type 0 where
  pub within : length bytes ≤ limit
  pub taken : input.old ≡ prepend_known bytes input.new
  pub faults : input.faults_before ≤ input.faults_after
  pub answered : IsTrue input.answers_faults → input.faults_after ≡ input.faults_before

-- what a call shows of an input, by its parts
abbrev input_by_parts : Option (List ℕ) → Option (List ℕ) → ℕ → ℕ → Bool → Input
input_by_parts o n f h a = record { old = o; new = n; faults_before = f; faults_after = h; answers_faults = a }

-- a reading that gives up after one more piece: for want of memory, or since it passed the limit by one byte
pub given_up : {A : Type 0} (limit most k : ℕ) (answer : Unread) (bytes piece : List ℕ) (o m n : Option (List ℕ)) (f g h : ℕ) (a : Bool) → IsReadSoFar limit bytes (input_by_parts o m f g a) →
    IsRead most (Ok k) piece (input_by_parts m n g h a) → length (bytes ++ take k piece) ≤ limit + 1 → (answer ≡ unread.TooLong → length (bytes ++ take k piece) ≡ limit + 1) → (answer ≢ unread.TooLong → length (bytes ++ take k piece) ≤ limit) → answer ≢ unread.Failed →
    IsReadWhole {A = A} limit (Err answer) (input_by_parts o n f h a)
given_up {A} limit most k answer bytes piece o m n f g h a before step at_most past other calm =
    let taken : o ≡ prepend_known (bytes ++ take k piece) n = before.taken ∙ ap (prepend_known bytes) step.taken ∙ prepend_known-prepend_known n bytes (take k piece) in
    record {
      within = tt;
      whole = tt;
      at_end = tt;
      too_long = λ e. (bytes ++ take k piece, taken, past cc);
      taken = (bytes ++ take k piece, taken, at_most);
      within_limit = λ e. (bytes ++ take k piece, taken, other (λ h. e (ap Err h)));
      failed = λ e. absurd (calm cc);
      faults = omega (arith, before.faults, step.faults);
      answered = λ answers _. step.answered answers (λ e. cc) ∙ before.answered answers;
    }
