use Rattle.std.proofs.Common.{subst, sym, ◌∙◌, map, string_bytes, refl, ap, inl, inr}
use Rattle.qz_io.specs.Transfers.{source_shown}
use Rattle.qz_top.specs.Answer.{shelf_shown}
use Rattle.qz_top.specs.declared.words.Command.TheVariants.{Tidy, Optimise, Trial, Check}
use Rattle.qz_top.specs.Reports.{end_text}
use Rattle.qz_top.specs.Words.{IsLawfulCommand}
use Rattle.qz_top.proofs.AnswerTexts.{status_for_err}
use Rattle.qz_top.proofs.AnswerLemmas.{still, still_not_rose}
use Rattle.qz_top.proofs.RunLemmas.{carried_by_name, optimised_by_name, needs_by_name, needs_by_name_or, taken_by_name, opens_none, opens_some, same_rules}
use Rattle.qz_top.specs.Check.{program_file, Checks, HasProgram}
use Rattle.qz_top.specs.Making.{HasRules}
use Rattle.qz_top.specs.Optimise.{rule_file, Optimises}
use Rattle.qz_top.specs.Run.{file_of}
use Rattle.qz_top.proofs.solo.carry_out.Goals as goal

pub returns-in-Generate-clause-carried_out : goal.returns-in-Generate-clause-carried_out
returns-in-Generate-clause-carried_out g c =
    rw c.in-Generate.is (c.written.ensures.carried_out _ c.in-Generate.seed (source_shown g.I.Source c.args.input.now c.args.input.now)
    (shelf_shown g.F.Shelf c.args.shelf.now c.args.shelf.now) ((c.requires.makes _ _ c.in-Generate.seed _ c.in-Generate.is).1 _ c.make-made.ensures) refl refl)

pub returns-in-Generate-clause-told : goal.returns-in-Generate-clause-told
returns-in-Generate-clause-told g c =
    rw c.in-Generate.is (record { done = c.written.ensures.report _ c.in-Generate.seed ((c.requires.makes _ _ c.in-Generate.seed _ c.in-Generate.is).1 _ c.make-made.ensures); not_done = λ n. ap (end_text c.written.result.0) (c.written.ensures.no_report n) })

pub returns-in-Generate-clause-rules : goal.returns-in-Generate-clause-rules
returns-in-Generate-clause-rules g c = λ b workers seed report is done.
    same_rules _ b _ workers _ seed _ report _ _ (sym c.in-Generate.is ∙ is) (c.written.ensures.rules _ c.in-Generate.seed ((c.requires.makes _ _ c.in-Generate.seed _ c.in-Generate.is).1 _ c.make-made.ensures) done)

pub returns-in-Tidy-clause-told : goal.returns-in-Tidy-clause-told
returns-in-Tidy-clause-told g c = rw c.in-Tidy.is (status_for_err Tidy (λ text e. e) c.tidy.result)

pub returns-in-Optimise-clause-told : goal.returns-in-Optimise-clause-told
returns-in-Optimise-clause-told g c = rw c.in-Optimise.is (status_for_err (Optimise _ _ _) (λ text e. e) c.optimise-status.result)

pub returns-in-Trial-clause-told : goal.returns-in-Trial-clause-told
returns-in-Trial-clause-told g c = rw c.in-Trial.is (status_for_err (Trial _ _ _) (λ text e. e) c.trial.result)

pub returns-in-Tidy-clause-carried_out : goal.returns-in-Tidy-clause-carried_out
returns-in-Tidy-clause-carried_out g c =
    rw c.in-Tidy.is (c.tidy.ensures.carried_out (shelf_shown g.F.Shelf c.args.shelf.now c.args.shelf.now) refl)

pub returns-in-Tidy-clause-shelf_fault : goal.returns-in-Tidy-clause-shelf_fault
returns-in-Tidy-clause-shelf_fault g c = λ e. absurd (still_not_rose ((c.tidy.ensures.carried_out still refl).shelf_failed e))

pub returns-in-Tidy-clause-unread : goal.returns-in-Tidy-clause-unread
returns-in-Tidy-clause-unread g c = inr (rw c.in-Tidy.is tt)

pub returns-in-Tidy-clause-read_fault : goal.returns-in-Tidy-clause-read_fault
returns-in-Tidy-clause-read_fault g c = λ _. rw c.in-Tidy.is tt

pub returns-in-Tidy-clause-before : goal.returns-in-Tidy-clause-before
returns-in-Tidy-clause-before g c = λ b. absurd (c.tidy.ensures.late b)

pub trial-requires : goal.trial-requires
trial-requires g c = subst IsLawfulCommand c.in-Trial.is c.requires.lawful

pub returns-in-Trial-clause-carried_out : goal.returns-in-Trial-clause-carried_out
returns-in-Trial-clause-carried_out g c =
    rw c.in-Trial.is (c.trial.ensures.carried_out (source_shown g.I.Source c.args.input.now c.args.input.now)
    (shelf_shown g.F.Shelf c.args.shelf.now c.args.shelf.now) refl refl)

pub returns-in-Trial-clause-unread : goal.returns-in-Trial-clause-unread
returns-in-Trial-clause-unread g c = inl refl

-- the file is the one that the word names
pub returns-in-Optimise-clause-carried_out : goal.returns-in-Optimise-clause-carried_out
returns-in-Optimise-clause-carried_out g c =
    carried_by_name (map string_bytes c.args.words.now) c.args.command _ c.in-Optimise.rules c.word.result.now c.in-Optimise.is c.word.ensures (λ name. Optimises name c.in-Optimise.plan) c.optimise-status.result _ (λ h. h) c.optimise-status.ensures.carried_out

pub returns-in-Optimise-clause-optimised : goal.returns-in-Optimise-clause-optimised
returns-in-Optimise-clause-optimised g c = λ k plan workers is done.
    optimised_by_name (map string_bytes c.args.words.now) c.args.command c.in-Optimise.rules c.in-Optimise.plan _ c.word.result.now c.in-Optimise.is c.word.ensures k plan workers _ is (c.optimise-status.ensures.optimised done)

pub returns-in-Optimise-clause-unread : goal.returns-in-Optimise-clause-unread
returns-in-Optimise-clause-unread g c =
    needs_by_name_or (map string_bytes c.args.words.now) c.args.command _ c.in-Optimise.rules c.word.result.now c.in-Optimise.is c.word.ensures _ HasRules _ (λ h. h) c.optimise-status.ensures.unread

pub returns-in-Optimise-clause-read_fault : goal.returns-in-Optimise-clause-read_fault
returns-in-Optimise-clause-read_fault g c = λ e.
    needs_by_name (map string_bytes c.args.words.now) c.args.command _ c.in-Optimise.rules c.word.result.now c.in-Optimise.is c.word.ensures HasRules _ (λ h. h) (c.optimise-status.ensures.read_fault e)

pub returns-in-Optimise-clause-file_taken : goal.returns-in-Optimise-clause-file_taken
returns-in-Optimise-clause-file_taken g c = λ named file same tells.
    taken_by_name (map string_bytes c.args.words.now) c.args.command _ c.in-Optimise.rules c.word.result.now c.in-Optimise.is c.word.ensures rule_file named _ file _ _ _ refl same (c.optimise-status.ensures.file_taken file) tells

pub returns-in-Optimise-clause-shelf_fault : goal.returns-in-Optimise-clause-shelf_fault
returns-in-Optimise-clause-shelf_fault g c = λ _. opens_some c.args.command _ _ c.in-Optimise.is refl

pub returns-in-Optimise-clause-unopened : goal.returns-in-Optimise-clause-unopened
returns-in-Optimise-clause-unopened g c = λ none. absurd (opens_some c.args.command _ _ c.in-Optimise.is refl none)

pub optimise-status-requires-clause-finds : goal.optimise-status-requires-clause-finds
optimise-status-requires-clause-finds g c = c.requires.finds _ _ _ c.in-Optimise.is

pub word-requires : goal.word-requires
word-requires g c = rw c.in-Optimise.is at c.requires.within

-- so it is with that of a check
pub word-name-requires : goal.word-name-requires
word-name-requires g c = rw c.in-Check.is at c.requires.within

pub returns-in-Check-clause-told : goal.returns-in-Check-clause-told
returns-in-Check-clause-told g c = rw c.in-Check.is (status_for_err (Check _) (λ text e. e) c.check-status.result)

pub returns-in-Check-clause-carried_out : goal.returns-in-Check-clause-carried_out
returns-in-Check-clause-carried_out g c =
    carried_by_name (map string_bytes c.args.words.now) c.args.command _ c.in-Check.other c.word-name.result.now c.in-Check.is c.word-name.ensures Checks c.check-status.result _ (λ h. h) c.check-status.ensures.carried_out

pub returns-in-Check-clause-unread : goal.returns-in-Check-clause-unread
returns-in-Check-clause-unread g c =
    needs_by_name_or (map string_bytes c.args.words.now) c.args.command _ c.in-Check.other c.word-name.result.now c.in-Check.is c.word-name.ensures _ HasProgram _ (λ h. h) c.check-status.ensures.unread

pub returns-in-Check-clause-read_fault : goal.returns-in-Check-clause-read_fault
returns-in-Check-clause-read_fault g c = λ e.
    needs_by_name (map string_bytes c.args.words.now) c.args.command _ c.in-Check.other c.word-name.result.now c.in-Check.is c.word-name.ensures HasProgram _ (λ h. h) (c.check-status.ensures.read_fault e)

pub returns-in-Check-clause-file_taken : goal.returns-in-Check-clause-file_taken
returns-in-Check-clause-file_taken g c = λ named file same tells.
    taken_by_name (map string_bytes c.args.words.now) c.args.command _ c.in-Check.other c.word-name.result.now c.in-Check.is c.word-name.ensures program_file named _ file _ _ _ refl same (c.check-status.ensures.file_taken file) tells

pub returns-in-Check-clause-shelf_fault : goal.returns-in-Check-clause-shelf_fault
returns-in-Check-clause-shelf_fault g c = λ _. opens_some c.args.command _ _ c.in-Check.is refl

pub returns-in-Check-clause-unopened : goal.returns-in-Check-clause-unopened
returns-in-Check-clause-unopened g c = λ none. absurd (opens_some c.args.command _ _ c.in-Check.is refl none)

pub returns-in-Generate-clause-file_taken : goal.returns-in-Generate-clause-file_taken
returns-in-Generate-clause-file_taken g c = λ named file same. absurd (opens_none c.args.command _ named c.in-Generate.is refl same)

pub returns-in-Generate-clause-file_at_end : goal.returns-in-Generate-clause-file_at_end
returns-in-Generate-clause-file_at_end g c = λ some. absurd (some (ap file_of c.in-Generate.is))

pub returns-in-Tidy-clause-file_taken : goal.returns-in-Tidy-clause-file_taken
returns-in-Tidy-clause-file_taken g c = λ named file same. absurd (opens_none c.args.command _ named c.in-Tidy.is refl same)

pub returns-in-Tidy-clause-file_at_end : goal.returns-in-Tidy-clause-file_at_end
returns-in-Tidy-clause-file_at_end g c = λ some. absurd (some (ap file_of c.in-Tidy.is))

pub returns-in-Trial-clause-file_taken : goal.returns-in-Trial-clause-file_taken
returns-in-Trial-clause-file_taken g c = λ named file same. absurd (opens_none c.args.command _ named c.in-Trial.is refl same)

pub returns-in-Trial-clause-file_at_end : goal.returns-in-Trial-clause-file_at_end
returns-in-Trial-clause-file_at_end g c = λ some. absurd (some (ap file_of c.in-Trial.is))
