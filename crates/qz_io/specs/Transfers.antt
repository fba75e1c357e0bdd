-- What a call that reads shows of an input, and what it answers.
use Rattle.std.specs.Prelude.{◌≡◌, ◌≢◌, ℕ, ◌+◌, ◌<◌, ◌≤◌, Bool, IsTrue, List, take, Option, Result, Err, Vec, vec_len, IfOk, OnOk, OnErr}
use Rattle.std.specs.Io.KnownBytes.{prepend_known, IsAtEnd}
use Rattle.qz_io.specs.declared.fault.IoFault.{IoFault}
use Rattle.qz_io.specs.declared.fault.IoFault.TheVariants as fault
use Rattle.qz_io.specs.declared.source.Source as source
use Rattle.qz_io.specs.declared.shelf.Shelf as shelf
use Rattle.qz_io.specs.declared.transfers.Unread.{Unread}
use Rattle.qz_io.specs.declared.transfers.Unread.TheVariants as unread
use Rattle.qz_io.specs.Counts.{Rose}
use Rattle.qz_io.specs.Told.{TakesBytes}

-- what a call shows of an input: what it tells to be left and how often it has failed, before and after; whether each
-- fault is answered
pub record Input : Type 0 where
  pub old : Option (List ℕ)
  pub new : Option (List ℕ)
  pub faults_before : ℕ
  pub faults_after : ℕ
  pub answers_faults : Bool

-- what a call shows of an input, of which these tell what is left and how often it has failed
abbrev pub input_of : {S : Type 0} → (S → Option (List ℕ)) → (S → ℕ) → Bool → S → S → Input
input_of left faults answers_faults before after = record { old = left before; new = left after; faults_before = faults before; faults_after = faults after; answers_faults = answers_faults }

-- what a call shows of a source
abbrev pub source_shown : {S : Type 0} → source.Ghosts S → S → S → Input
source_shown members before after = input_of members.left members.faults members.answers_faults before after

-- what a call shows of the open file of a shelf
abbrev pub file_shown : {S : Type 0} → shelf.Ghosts S → S → S → Input
file_shown members before after = input_of members.rest members.faults members.answers_faults before after

-- a read of at most so many bytes, into the front of the buffer, answers this
pub record IsRead (most : ℕ) (result : Result ℕ IoFault) (buffer : List ℕ) (input : Input) : Type 0 where
  -- no more bytes are taken than are asked for
  pub within : IfOk result (λ k. k ≤ most)
  -- those that were taken are at the front of the buffer
  pub taken : IfOk result (λ k. input.old ≡ prepend_known (take k buffer) input.new)
  -- none are taken only at the end, where some are asked for
  pub at_end : IfOk result (λ k. k ≡ 0 → 0 < most → IsAtEnd input.old)
  -- an error takes none
  pub nothing_taken : OnErr result (input.new ≡ input.old)
  -- it fails only where the count of faults rose
  pub failed : result ≡ Err fault.Failed → Rose input.faults_before input.faults_after
  -- the count never falls
  pub faults : input.faults_before ≤ input.faults_after
  -- where each fault is answered, none is passed over
  pub answered : IsTrue input.answers_faults → result ≢ Err fault.Failed → input.faults_after ≡ input.faults_before

-- a reading of all that is left, or of one byte past the limit, answers this
pub record IsReadWhole {A : Type 0} (limit : ℕ) (result : Result (Vec ℕ A) Unread) (input : Input) : Type 0 where
  -- the answer has at most as many bytes as the limit
  pub within : IfOk result (λ bytes. vec_len bytes ≤ limit)
  -- just these bytes were taken
  pub whole : IfOk result (λ bytes. input.old ≡ prepend_known bytes.items input.new)
  -- then none are left
  pub at_end : OnOk result (IsAtEnd input.new)
  -- it is too long only where one byte past the limit was taken
  pub too_long : result ≡ Err unread.TooLong → TakesBytes input.old input.new (λ n. n ≡ limit + 1)
  -- no answer takes more, and no other one takes that byte
  pub taken : TakesBytes input.old input.new (λ n. n ≤ limit + 1)
  pub within_limit : result ≢ Err unread.TooLong → TakesBytes input.old input.new (λ n. n ≤ limit)
  -- it fails only where the count of faults rose
  pub failed : result ≡ Err unread.Failed → Rose input.faults_before input.faults_after
  -- the count never falls
  pub faults : input.faults_before ≤ input.faults_after
  -- where each fault is answered, none is passed over
  pub answered : IsTrue input.answers_faults → result ≢ Err unread.Failed → input.faults_after ≡ input.faults_before
