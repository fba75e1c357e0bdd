use Rattle.std.proofs.Common.{◌∙◌, refl, subst, sym, ap, Err}
use Rattle.std.specs.Io.KnownBytes.{append_known}
use Rattle.qz_top.specs.Optimise.{rule_file, Optimises}
use Rattle.qz_top.specs.Status.{WritesNothing}
use Rattle.qz_top.proofs.AnswerLemmas.{before_writes_nothing, carried_by_text}
use Rattle.qz_top.proofs.FileLemmas.{taken_late}
use Rattle.qz_top.proofs.OptimiseLemmas.{optimised_written}
use Rattle.qz_top.proofs.optimise.optimise.Goals as goal

pub returns-in-Ok-clause-carried_out : goal.returns-in-Ok-clause-carried_out
returns-in-Ok-clause-carried_out g c =
    carried_by_text (Optimises c.args.name.now c.args.plan) c.in-Ok.text.items _ _ _ (optimised_written c.args.plan c.args.name.now c.in-Ok.text.items _ _ c.in-Ok.ensures.made)
    c.write_text.ensures.begun c.deref.ensures.value c.write_text.ensures.written

pub returns-in-Ok-clause-optimised : goal.returns-in-Ok-clause-optimised
returns-in-Ok-clause-optimised g c = λ e. record {
  text = c.in-Ok.text.items;
  optimised = c.in-Ok.ensures.made;
  whole = c.write_text.ensures.written.whole e ∙ ap (append_known (g.O.Sink.written c.args.out.now)) c.deref.ensures.value;
}

pub returns-in-Ok-clause-before : goal.returns-in-Ok-clause-before
returns-in-Ok-clause-before g c = λ b. absurd (c.write_text.ensures.begun (before_writes_nothing c.write_text.result b))

pub returns-in-Ok-clause-read_fault : goal.returns-in-Ok-clause-read_fault
returns-in-Ok-clause-read_fault g c = λ e. absurd (c.write_text.ensures.begun (subst WritesNothing (sym e) tt))

pub returns-in-Err-clause-carried_out : goal.returns-in-Err-clause-carried_out
returns-in-Err-clause-carried_out g c = c.in-Err.ensures.made.carried_out _ refl refl

pub returns-in-Err-clause-optimised : goal.returns-in-Err-clause-optimised
returns-in-Err-clause-optimised g c = λ e. absurd (c.in-Err.ensures.made.not_done e)

pub returns-in-Err-clause-at_end : goal.returns-in-Err-clause-at_end
returns-in-Err-clause-at_end g c = λ e. absurd (c.in-Err.ensures.made.not_done e)

pub returns-in-Err-clause-read_fault : goal.returns-in-Err-clause-read_fault
returns-in-Err-clause-read_fault g c = λ e. c.in-Err.ensures.read_fault (ap Err e)

pub returns-in-Ok-clause-file_taken : goal.returns-in-Ok-clause-file_taken
returns-in-Ok-clause-file_taken g c = λ file tells. taken_late rule_file file _ _ c.write_text.result (c.in-Ok.ensures.file_taken file tells)

pub returns-in-Err-clause-file_at_end : goal.returns-in-Err-clause-file_at_end
returns-in-Err-clause-file_at_end g c = λ e. absurd (c.in-Err.ensures.made.not_done e)
