use Rattle.std.proofs.Common.{refl, subst, sym, ap, Err}
use Rattle.qz_top.specs.Check.{program_file, Checks}
use Rattle.qz_top.specs.Status.{WritesNothing}
use Rattle.qz_top.proofs.AnswerLemmas.{before_writes_nothing, carried_by_text}
use Rattle.qz_top.proofs.CheckLemmas.{checked_written}
use Rattle.qz_top.proofs.FileLemmas.{taken_late}
use Rattle.qz_top.proofs.check.check.Goals as goal

pub returns-in-Ok-clause-carried_out : goal.returns-in-Ok-clause-carried_out
returns-in-Ok-clause-carried_out g c =
    carried_by_text (Checks c.args.name.now) c.in-Ok.text.now _ _ _ (checked_written c.args.name.now c.in-Ok.text.now _ _ c.in-Ok.ensures.made)
    c.write_text.ensures.begun c.as_bytes.ensures.value c.write_text.ensures.written

pub returns-in-Ok-clause-before : goal.returns-in-Ok-clause-before
returns-in-Ok-clause-before g c = λ b. absurd (c.write_text.ensures.begun (before_writes_nothing c.write_text.result b))

pub returns-in-Ok-clause-read_fault : goal.returns-in-Ok-clause-read_fault
returns-in-Ok-clause-read_fault g c = λ e. absurd (c.write_text.ensures.begun (subst WritesNothing (sym e) tt))

pub returns-in-Ok-clause-file_taken : goal.returns-in-Ok-clause-file_taken
returns-in-Ok-clause-file_taken g c = λ file tells. taken_late program_file file _ _ c.write_text.result (c.in-Ok.ensures.file_taken file tells)

pub returns-in-Err-clause-carried_out : goal.returns-in-Err-clause-carried_out
returns-in-Err-clause-carried_out g c = c.in-Err.ensures.made.carried_out _ refl refl

pub returns-in-Err-clause-at_end : goal.returns-in-Err-clause-at_end
returns-in-Err-clause-at_end g c = λ e. absurd (c.in-Err.ensures.made.not_done e)

pub returns-in-Err-clause-read_fault : goal.returns-in-Err-clause-read_fault
returns-in-Err-clause-read_fault g c = λ e. c.in-Err.ensures.read_fault (ap Err e)

pub returns-in-Err-clause-file_at_end : goal.returns-in-Err-clause-file_at_end
returns-in-Err-clause-file_at_end g c = λ e. absurd (c.in-Err.ensures.made.not_done e)
