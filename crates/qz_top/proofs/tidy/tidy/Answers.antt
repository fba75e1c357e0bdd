use Rattle.std.proofs.Common.{refl}
use Rattle.qz_top.specs.Tidy.{Tidies}
use Rattle.qz_top.proofs.AnswerLemmas.{before_writes_nothing, carried_by_text}
use Rattle.qz_top.proofs.InputLemmas.{ends_late, ends_undone}
use Rattle.qz_top.proofs.TidyLemmas.{tidied_written, tidied_ends}
use Rattle.qz_top.proofs.tidy.tidy.Goals as goal

pub returns-in-Ok-clause-carried_out : goal.returns-in-Ok-clause-carried_out
returns-in-Ok-clause-carried_out g c = λ shelf quiet.
    carried_by_text Tidies c.in-Ok.text.items _ _ _ (tidied_written c.in-Ok.text.items _ shelf c.in-Ok.ensures.made quiet)
    c.write_text.ensures.begun c.deref.ensures.value c.write_text.ensures.written

pub returns-in-Ok-clause-late : goal.returns-in-Ok-clause-late
returns-in-Ok-clause-late g c = λ b. c.write_text.ensures.begun (before_writes_nothing c.write_text.result b)

pub returns-in-Err-clause-carried_out : goal.returns-in-Err-clause-carried_out
returns-in-Err-clause-carried_out g c = λ shelf quiet. (tidied_ends c.in-Err.status _ shelf c.in-Err.ensures.made quiet).carried_out _ refl refl

pub returns-in-Err-clause-at_end : goal.returns-in-Err-clause-at_end
returns-in-Err-clause-at_end g c = λ e. absurd (ends_undone c.in-Err.status _ c.in-Err.ensures.made e)

pub returns-in-Err-clause-late : goal.returns-in-Err-clause-late
returns-in-Err-clause-late g c = ends_late c.in-Err.status _ c.in-Err.ensures.made
